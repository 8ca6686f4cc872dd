-- The numbers of functions and of instructions.
use Rattle.std.proofs.Common.{◌≡◌, ap, ◌∙◌, ◌+◌, length, arith, map}
use Rattle.std.proofs.lemmas.List.{length-map}
use Rattle.std.proofs.Common.{length-append}
use Rattle.std.specs.List.{filter_map}
use Rattle.wasm_syntax.specs.declared.instr.Instr.{Instr}
use Rattle.std.specs.Prelude.{List}
use Rattle.wasm_syntax.specs.declared.module.Module.{Module}
use Rattle.wasm_syntax.specs.declared.module.Func.{Func}
use Rattle.wasm_syntax.specs.declared.module.Import.{Import}
use Rattle.wasm_syntax.specs.FlatForm.{flat_body}
use Rattle.wasm_syntax.specs.Trees.{sequence_of}
use Rattle.wasm_syntax.specs.Places.{size_of_all}
use Rattle.wasm_syntax.proofs.NumberLaws.{length-flat_body}
use Rattle.wasm_typing.specs.Valid.{func_types_of, func_import}
use Rattle.escape_analysis.specs.Exposure.{imported_funcs}

-- a body has as many items as its instructions take places, and its last `end`
pub counted : (body : List Instr) → length (flat_body body) ≡ size_of_all (sequence_of body) + 1
counted body = length-flat_body body

-- the functions that a module defines come after those that it imports
pub functions_end : (m : Module) → length (func_types_of m) ≡ imported_funcs m + length m.funcs
functions_end m =
    let many : length (func_types_of m) ≡ length (filter_map (λ (i : Import). func_import i.kind) m.imports) + length m.funcs =
    length-append (filter_map (λ (i : Import). func_import i.kind) m.imports) (map (λ (f : Func). f.ty) m.funcs)
    ∙ ap (λ n. length (filter_map (λ (i : Import). func_import i.kind) m.imports) + n) (length-map m.funcs (λ (f : Func). f.ty))
    in omega arith
