-- A place for each entry and each instruction gives the places that a listing wants.
use Rattle.wasm_syntax.specs.declared.module.Module.{Module}
use Rattle.wasm_syntax.specs.declared.module.Marks.{Marks}
use Rattle.wasm_typing.specs.faults.Faults.{Marked}
use Rattle.module_listing.specs.Listing.{HasPlaces}

pub marked_places : (m : Module) (k : Marks) → Marked m k → HasPlaces m k
marked_places m k marked = record { code = marked.code; items = marked.items }
