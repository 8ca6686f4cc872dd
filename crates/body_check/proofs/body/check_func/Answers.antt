use Rattle.std.proofs.Common.{List, ◌<◌, length, sym, subst}
use Rattle.wasm_syntax.specs.declared.module.FuncType.{FuncType}
use Rattle.body_check.proofs.BodyLemmas.{params_at, results_at}
use Rattle.body_check.proofs.body.check_func.Goals as goal

pub check_body-requires-clause-names : goal.check_body-requires-clause-names
check_body-requires-clause-names c =
    let M : List FuncType → Type 0 = λ ts. c.args.func.now.ty < length ts in
    let within = subst M (sym c.as_slice.ensures) c.requires.known in
    record {
      scope = c.requires.scope;
      params = params_at c.args.module.now.types c.as_slice.result.now c.args.func.now.ty c.index-as_slice-func.result c.as_slice-2.result.now c.as_slice.ensures within c.index-as_slice-func.is c.as_slice-2.ensures;
      results = results_at c.args.module.now.types c.as_slice.result.now c.args.func.now.ty c.index-as_slice-func.result _ c.as_slice-3.result.now c.as_slice.ensures within c.index-as_slice-func.is c.as_slice-3.ensures c.first_result.ensures;
      known = c.requires.types.known;
    }
