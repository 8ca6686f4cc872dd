-- Drafts of modules that are finished.
use Rattle.binary_grammar.specs.declared.section.Draft.{Draft}
use Rattle.binary_grammar.specs.declared.section.Decoded.{Decoded}

-- The module of a draft, and its marks.
abbrev pub finished : Draft → Decoded
finished d = record { «module» = d.module; marks = d.marks }
