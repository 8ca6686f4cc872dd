-- What lists that are chunks are made of.
use Rattle.std.specs.Prelude.{ℕ, Bool, if◌then◌else◌, Result, Ok}
use Rattle.sexp_text.specs.declared.fault.TextFault.{TextFault}
use Rattle.sexp_text.specs.Reading.{◌>>=◌}
use Rattle.notes.specs.declared.chunk.Chunk.{Chunk}
use Rattle.notes.specs.declared.chunk.Chunk.TheVariants as chunk
use Rattle.notes_grammar.specs.declared.head.Head.{Head}
use Rattle.notes_grammar.specs.declared.head.Head.TheVariants as head
use Rattle.notes_grammar.specs.Parts.{Part, Parts}
use Rattle.notes_grammar.specs.Reading.{Headed, headed, form, field, width, term_in, formula_in}
use Rattle.notes_terms.specs.Fields.{whole_two, whole_three}
use Rattle.notes_moves.specs.declared.chunks.ChunkKind.{ChunkKind}
use Rattle.notes_moves.specs.declared.chunks.ChunkKind.TheVariants as kind

-- the kind of a chunk whose list begins with this head
abbrev pub chunk_kind : Bool → Head → ChunkKind
chunk_kind later head.Cell = kind.Cell
chunk_kind later head.Region = kind.Region
chunk_kind later head.Row = if later then kind.Row else kind.Other
chunk_kind later _ = kind.Other

abbrev pub cell_read : Bool → ℕ → Parts → Result Chunk TextFault
cell_read later close ps = field width close ps >>= λ w. whole_two (term_in later) (term_in later) close w.1 >>= λ x. Ok (chunk.Cell w.0 x.0 x.1)

abbrev pub region_read : Bool → ℕ → Parts → Result Chunk TextFault
region_read later close ps = whole_two (term_in later) (term_in later) close ps >>= λ x. Ok (chunk.Region x.0 x.1)

abbrev pub row_read : Bool → ℕ → Parts → Result Chunk TextFault
row_read later close ps =
    field width close ps >>= λ w. whole_three (term_in later) (term_in later) (formula_in later) close w.1 >>= λ x. Ok (chunk.Row w.0 x.0 x.1 x.2)

-- the chunk of a list of this kind
abbrev pub chunk_formed : Bool → ChunkKind → Headed → Result Chunk TextFault
chunk_formed later kind.Cell h = cell_read later h.close h.rest
chunk_formed later kind.Region h = region_read later h.close h.rest
chunk_formed later kind.Row h = row_read later h.close h.rest
chunk_formed later kind.Other h = form h.at

abbrev pub chunk_read : Bool → Part → Result Chunk TextFault
chunk_read later p = headed p >>= λ h. chunk_formed later (chunk_kind later h.head) h
