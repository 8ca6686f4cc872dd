-- What type safety says of sessions (Core Specification, appendix 'Soundness').
use Rattle.std.specs.Prelude.{ℕ, List}
use Rattle.wasm_store.specs.Configuration.{Configuration}
use Rattle.type_safety.specs.Typed.{Typed}
use Rattle.type_safety.specs.Safety.{Preserves}
use Rattle.wasm_sessions.specs.Sessions.{Action, Acts, IsSession, IsMoment}

-- Each action keeps configurations typed.
abbrev pub ActionsPreserve : Type 0
ActionsPreserve = (action : Action) → Preserves (λ c d. Acts c action d)

-- Each moment of a session is typed.
abbrev pub SessionsAreTyped : Type 0
SessionsAreTyped = (moments : List Configuration) (k : ℕ) (c : Configuration) → IsSession moments → IsMoment moments k c → Typed c
