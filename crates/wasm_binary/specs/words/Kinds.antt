-- Kinds of sections, by the part of the decoder that adds them. These words are the project's own.
use Rattle.std.specs.Prelude.{Bool, true, false}
use Rattle.binary_grammar.specs.declared.section.Section.{Section}
use Rattle.binary_grammar.specs.declared.section.Section.TheVariants as section

-- The section stands behind the memories, and is not custom.
abbrev pub is_late : Section → Bool
is_late (section.Globals es ps) = true
is_late (section.Exports es ps) = true
is_late (section.Start n p) = true
is_late (section.Elems es ps) = true
is_late (section.Bodies bs) = true
is_late (section.Segments es ps) = true
is_late _ = false
