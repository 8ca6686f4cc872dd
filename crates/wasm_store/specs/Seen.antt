-- How a stored configuration is seen: each position as the code there, each stack with its top first.
use Rattle.std.specs.Prelude.{ℕ, List, [], Option, Some, None, option_map, map, reverse, slice_get}
use Rattle.wasm_syntax.specs.declared.instr.Instr.{Instr}
use Rattle.wasm_syntax.specs.declared.module.Func.{Func}
use Rattle.wasm_syntax.specs.Places.{rest_at}
use Rattle.wasm_store.specs.declared.store.FuncInst.{FuncInst}
use Rattle.wasm_store.specs.declared.store.FuncInst.TheVariants as inst
use Rattle.wasm_store.specs.declared.store.Instance.{Instance}
use Rattle.wasm_store.specs.declared.config.Label.{Label}
use Rattle.wasm_store.specs.declared.config.CodeFrame.{CodeFrame}
use Rattle.wasm_store.specs.declared.config.Frame.{Frame}
use Rattle.wasm_store.specs.declared.config.Frame.TheVariants.{Code, Host}
use Rattle.wasm_store.specs.declared.config.Config.TheInside.{Inside}
use Rattle.wasm_store.specs.Configuration.{OpenBlock, Activation, Layer, OfCode, OfHost, Configuration}

-- A function that an instance's module defines, by its position.
abbrev pub func_in : Option Instance → ℕ → Option Func
func_in None code = None
func_in (Some i) code = slice_get i.code code

-- The module's function that a function of the store is; a host's has no code (section 4.2.6).
abbrev pub func_of : List Instance → Option FuncInst → Option Func
func_of instances None = None
func_of instances (Some (inst.Code ty instance code)) = func_in (slice_get instances instance) code
func_of instances (Some (inst.Host ty)) = None

-- The body of a function, or nothing where there is none.
abbrev pub body_or_nothing : Option Func → List Instr
body_or_nothing None = []
body_or_nothing (Some f) = f.body

-- The body of the function at an address.
abbrev pub body_of : List FuncInst → List Instance → ℕ → List Instr
body_of funcs instances func = body_or_nothing (func_of instances (slice_get funcs func))

-- An open block of a frame that runs this body.
abbrev pub seen_label : List Instr → Label → OpenBlock
seen_label body l =
    record { arity = l.arity; height = l.height; again = option_map (rest_at body) l.again; rest = rest_at body l.after }

-- A frame that runs this body.
abbrev pub seen_code : List Instr → CodeFrame → Activation
seen_code body f =
    record {
      instance = f.instance;
      func = f.func;
      locals = f.locals;
      operands = reverse f.operands;
      labels = map (seen_label body) (reverse f.labels);
      rest = rest_at body f.position;
    }

-- A frame, in a store with these functions and instances.
abbrev pub seen_frame : List FuncInst → List Instance → Frame → Layer
seen_frame funcs instances (Code f) = OfCode (seen_code (body_of funcs instances f.func) f)
seen_frame funcs instances (Host func args given) = OfHost func args given

-- The configuration that a stored one stands for.
abbrev pub seen : Inside → Configuration
seen c =
    record {
      store = c.store;
      frames = map (seen_frame c.store.funcs c.store.instances) (reverse c.frames);
      outcome = c.outcome;
    }
