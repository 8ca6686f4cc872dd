use Rattle.std.proofs.Common.{List, ℕ, Result, Ok, Err, subst}
use Rattle.binary_grammar.specs.declared.fault.DecodeFault.{DecodeFault}
use Rattle.binary_grammar.specs.declared.section.Decoded.{Decoded}
use Rattle.std.specs.Prelude.{IfOk, IfErr}
use Rattle.binary_grammar.specs.Bounds.{the_bounds}
use Rattle.binary_grammar.specs.words.Reading.{Gives}
use Rattle.binary_grammar.specs.words.SectionReading.{module_at}
use Rattle.binary_grammar.specs.ModuleGrammar.{Spells, InLimits}
use Rattle.binary_grammar.specs.declared.fault.DecodeFault.TheVariants.{Malformed, Limit, OutOfMemory}
use Rattle.binary_grammar.specs.Plans.{Refused}
use Rattle.binary_grammar.proofs.PlanWhole.{stops_module}
use Rattle.binary_grammar.proofs.ModuleLaws.{module_takes, module_again}
use Rattle.wasm_binary.proofs.decoder.decode.Goals as goal

is_found : (bytes : List ℕ) (r : Result Decoded DecodeFault) → Gives (λ d. d) r (module_at the_bounds bytes) → IfOk r (λ d. Spells bytes d.module d.marks × InLimits the_bounds d.module)
is_found bytes (Ok d) g = module_takes the_bounds bytes d g
is_found bytes (Err e) g = tt

pub returns-clause-found : goal.returns-clause-found
returns-clause-found c = is_found c.args.bytes.now c.read_module.result c.read_module.ensures

pub returns-clause-spelled : goal.returns-clause-spelled
returns-clause-spelled c = λ m k h w. subst (λ f. Gives (λ d. d) c.read_module.result f) (module_again the_bounds c.args.bytes.now m k h w) c.read_module.ensures

is_refused : (bytes : List ℕ) (r : Result Decoded DecodeFault) → Gives (λ d. d) r (module_at the_bounds bytes) → IfErr r (Refused the_bounds bytes)
is_refused bytes (Ok d) g = tt
is_refused bytes (Err OutOfMemory) g = tt
is_refused bytes (Err (Malformed at w)) g = (stops_module the_bounds bytes (Malformed at w)).0 g
is_refused bytes (Err (Limit at w)) g = (stops_module the_bounds bytes (Limit at w)).0 g

pub returns-clause-fault : goal.returns-clause-fault
returns-clause-fault c = is_refused c.args.bytes.now c.read_module.result c.read_module.ensures

pub returns-clause-refused : goal.returns-clause-refused
returns-clause-refused c = λ f h. subst (λ x. Gives (λ d. d) c.read_module.result x) ((stops_module the_bounds c.args.bytes.now f).1 h) c.read_module.ensures
