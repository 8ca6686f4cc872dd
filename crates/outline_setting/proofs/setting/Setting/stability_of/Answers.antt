use Rattle.std.proofs.Common.{ap, ◌∙◌, slice_get, List}
use Rattle.escape_analysis.specs.declared.stability.Stability.{Stability}
use Rattle.outline_setting.proofs.Walks.{known-stability}
use Rattle.outline_setting.proofs.setting.Setting.stability_of.Goals as goal

pub returns : goal.returns
returns c =
    c.stability_at.ensures ∙ ap (λ (xs : List Stability). slice_get xs c.args.k) c.as_slice.ensures
    ∙ known-stability c.args.self.now.code c.self.inside.exposure.now c.args.k (cc)
