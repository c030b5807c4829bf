-- The values for which kinds of lines and places of lines stand.
use Rattle.std.specs.Prelude.{Option, Some, None}
use Rattle.pua_reader.specs.declared.section.Section.{Section}
use Rattle.pua_reader.specs.declared.section.Section.TheVariants as section
use Rattle.pua_reader.specs.declared.section.Kind.{Kind}
use Rattle.pua_reader.specs.declared.section.Kind.TheVariants.{Passed, Begins, Row}
use Rattle.pua_lines.specs.declared.place.LineKind.{LineKind}
use Rattle.pua_lines.specs.declared.place.LineKind.TheVariants as line
use Rattle.pua_lines.specs.declared.place.Place.{Place}
use Rattle.pua_lines.specs.declared.section.SectionWord.{SectionWord}
use Rattle.pua_lines.specs.Sections.{section_of}
use Rattle.pua_lines.specs.Parts.{PlaceOf}

-- the kind of a line
abbrev pub kind_value : LineKind → Kind
kind_value line.Passed = Passed
kind_value (line.Begins s) = Begins (section_of s)
kind_value line.Row = Row

-- the section that a section word begins, and the one before the first
abbrev pub section_value : Option SectionWord → Section
section_value None = section.Before
section_value (Some s) = section_of s

-- where a line stands
abbrev pub place_value : Place → PlaceOf
place_value p =
    record { number = p.number; section = section_value p.section; stages = p.stages; interstages = p.interstages }
