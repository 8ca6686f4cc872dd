-- Parts of what instructions do.
use Rattle.std.specs.Prelude.{Ok, Option}
use Rattle.wasm_values.specs.declared.number.ValType.{ValType}
use Rattle.wasm_values.specs.declared.number.ValType.TheVariants.{I32}
use Rattle.term_trees.specs.declared.term.Term.{Term}
use Rattle.term_trees.specs.declared.term.Term.TheVariants as term
use Rattle.outline_rules.specs.Refusals.{Ruling, ◌>>=◌}
use Rattle.outline_rules.specs.States.{State, fresh, number, typed_pushed, fact_added, pages_added}
use Rattle.outline_rules.specs.Instructions.{chosen}
use Rattle.outline_rules.specs.Memory.{growth, grown_region, memory_grown}
use Rattle.outline_rules.specs.Renewal.{chunk_added}
use Rattle.symbolic_state.specs.Making.{made}

-- the outcome of `select` of a, b and c: a typed variable, and what is known of it
abbrev pub choice_pushed : ValType → (a b c : Term) → State → Ruling State
choice_pushed ty a b c s = typed_pushed ty s >>= fact_added (chosen (fresh s) a b c)

-- the bytes of so many pages, within the limit
abbrev pub pages_made : Term → Ruling Term
pages_made p = made (term.Mul (number 65536) p)

-- the bytes of the pages from p to q, within the limit
abbrev pub pages_between : (p q : Term) → Ruling Term
pages_between p q = made (term.Sub q p) >>= λ d. made (term.Mul (number 65536) d)

-- two terms, the first first
abbrev pub joined : Ruling Term → Ruling Term → Ruling (Term × Term)
joined first second = first >>= λ a. second >>= λ n. Ok (a, n)

-- the address and the length of the region that a growth from p pages to q gives, within the limit
abbrev pub region_made : (p q : Term) → Ruling (Term × Term)
region_made p q = joined (pages_made p) (pages_between p q)

-- the growth from p pages to q with the outcome r: what is known of it, and the new region
abbrev pub growth_known : (r p q n : Term) → State → Ruling State
growth_known r p q n s = fact_added (growth r p q n) s >>= λ u. chunk_added (grown_region p q) u

-- the growth of the private memory of p pages by n with the outcome r
abbrev pub private_grown : (r n p : Term) → State → Ruling State
private_grown r n p s = pages_added p s >>= λ t. growth_known r p (fresh s) n t

-- the growth by n of a memory of so many pages, where it is private: a typed variable is pushed as its outcome
abbrev pub growth_pushed : (n : Term) → Option Term → State → Ruling State
growth_pushed n pages s = typed_pushed I32 s >>= λ t. memory_grown (fresh s) n pages t
