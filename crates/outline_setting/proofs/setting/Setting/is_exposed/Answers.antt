use Rattle.std.proofs.Common.{◌≡◌, ap, ◌∙◌, arith, length, slice_index_or, Bool, false, List}
use Rattle.wasm_typing.specs.Valid.{func_types_of}
use Rattle.outline_setting.proofs.Walks.{marks-length, mark-at}
use Rattle.outline_setting.proofs.setting.Setting.is_exposed.Goals as goal

pub bounds-as_slice-f : goal.bounds-as_slice-f
bounds-as_slice-f c =
    let many : length c.as_slice.result.now ≡ length (func_types_of c.args.self.now.code) = ap (λ (xs : List Bool). length xs) c.as_slice.ensures ∙ marks-length c.args.self.now.code c.self.inside.exposure.now (cc) in
    omega arith

pub returns : goal.returns
returns c = ap (λ (xs : List Bool). slice_index_or xs c.args.f false) c.as_slice.ensures ∙ mark-at c.args.self.now.code c.self.inside.exposure.now c.args.f (cc) c.requires
