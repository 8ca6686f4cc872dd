use Rattle.std.proofs.Common.{◌≡◌, ◌*◌, ◌^◌, ◌<◌, ap, ◌∙◌, arith}
use Rattle.wasm_values.specs.Operators.{width_of, sign_extended, number_of_bytes}
use Rattle.wasm_values.proofs.RangeLaws.{sign_extended-lt}
use Rattle.wasm_syntax.specs.Accesses.{bytes_loaded, loaded_type}
use Rattle.wasm_reduce.proofs.Loads.{widths, number_fits}
use Rattle.wasm_reduce.proofs.memory.number_loaded.Goals as goal

pub sext-requires-clause-fits : goal.sext-requires-clause-fits
sext-requires-clause-fits c =
    let below = number_fits c.args.op c.args.bytes.now c.requires (λ i. (c.type_inv.bytes i).fits) in
    let width : 8 * bytes_loaded c.args.op ≡ 8 * c.bytes_loaded.result = omega (arith, c.bytes_loaded.ensures.value) in
    let power : 2 ^ (8 * bytes_loaded c.args.op) ≡ 2 ^ (8 * c.bytes_loaded.result) = ap (λ n. 2 ^ n) width in
    omega (arith, below, power, c.load_le-number.ensures)

pub returns-then-is_signed-clause-fits : goal.returns-then-is_signed-clause-fits
returns-then-is_signed-clause-fits c =
    let op = c.args.op in
    let w = widths op in
    let below = number_fits op c.args.bytes.now c.requires (λ i. (c.type_inv.bytes i).fits) in
    let small : sign_extended (8 * bytes_loaded op) (width_of (loaded_type op)) (number_of_bytes c.args.bytes.now) < 2 ^ width_of (loaded_type op) =
    sign_extended-lt (8 * bytes_loaded op) (width_of (loaded_type op)) (number_of_bytes c.args.bytes.now) w.some w.within below
    in
    let value : c.sext.result ≡ sign_extended (8 * bytes_loaded op) (width_of (loaded_type op)) (number_of_bytes c.args.bytes.now) =
    c.sext.ensures
    ∙ ap (λ n. sign_extended (8 * n) c.bits.result c.load_le-number.result) c.bytes_loaded.ensures.value
    ∙ ap (λ n. sign_extended (8 * bytes_loaded op) n c.load_le-number.result) (c.bits.ensures ∙ ap width_of c.loaded_type.ensures)
    ∙ ap (λ n. sign_extended (8 * bytes_loaded op) (width_of (loaded_type op)) n) c.load_le-number.ensures
    in
    omega (arith, small, value)

pub returns-else-is_signed-clause-fits : goal.returns-else-is_signed-clause-fits
returns-else-is_signed-clause-fits c =
    let op = c.args.op in
    let below = number_fits op c.args.bytes.now c.requires (λ i. (c.type_inv.bytes i).fits) in
    omega (arith, below, (widths op).fits, c.load_le-number.ensures)
