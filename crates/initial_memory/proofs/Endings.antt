-- The ends of chunks, one after another.
use Rattle.std.proofs.Common.{◌≡◌, refl, sym, ap, ◌∙◌, ℕ, suc, ◌<◌, List, [], ◌∷◌, length, drop, get_or, Option, Some, None}
use Rattle.notes.specs.declared.chunk.Chunk.{Chunk}
use Rattle.outline_rules.specs.Settings.{Setting}
use Rattle.outline_rules.specs.Initial.{chunk_end, last_end}
use Rattle.outline_setting.proofs.Walks.{drop_at}

-- no end after one that there isn't
last_none : (c : Setting) (chunks : List Chunk) → last_end c chunks None ≡ None
last_none c [] = refl
last_none c (chunk ∷ chunks) = last_none c chunks

pub stops : (c : Setting) (chunks : List Chunk) (i from : ℕ) (chunk : Chunk) (all : Option ℕ) → i < length chunks → chunk ≡ get_or chunks i chunk
    → chunk_end c from chunk ≡ None → all ≡ last_end c (drop i chunks) (Some from) → None ≡ all
stops c chunks i from chunk all within is end so_far =
    sym (so_far ∙ ap (λ cs. last_end c cs (Some from)) (drop_at chunks i chunk within is) ∙ ap (last_end c (drop (suc i) chunks)) end ∙ last_none c (drop (suc i) chunks))
