-- An object's own service comes first, as in the definition; whichever it is, its function lays the definition's answer.
use mathlib.Core.Path.{ap, ◌∙◌}
use Rattle.std.specs.Prelude.{Some}
use Rattle.listing.proofs.Sent.{in_store}
use Rattle.services.proofs.Choosing.{plain-symbols, plain-structures, plain_template, plain_by}
use Rattle.services.proofs.plain.Goals as goal

pub returns-in_default : goal.returns-in_default
returns-in_default c =
    plain_by _ _ _ _ _ _ _ _ _ _ c.object_at-o.result c.object_at-o.ensures _ c.own_service.ensures
    c.in_default.is _ c.by_service.ensures

pub returns-in-SymbolList : goal.returns-in-SymbolList
returns-in-SymbolList c =
    plain-symbols _ _ _ _ _ _ _ _ _ _ c.object_at-o.result c.object_at-o.ensures _ c.own_service.ensures _
    (c.in-Some.is ∙ ap Some c.in-SymbolList.is) c.symbol_attributes.ensures

pub returns-in-StructureList : goal.returns-in-StructureList
returns-in-StructureList c =
    plain-structures _ _ _ _ _ _ _ _ _ _ c.object_at-o.result c.object_at-o.ensures _ c.own_service.ensures _
    (c.in-Some.is ∙ ap Some c.in-StructureList.is) c.structure_attributes.ensures

pub read_template-requires : goal.read_template-requires
read_template-requires c = (in_store _ _ c.requires.judged, c.requires.room)

pub returns-in-Template : goal.returns-in-Template
returns-in-Template c =
    plain_template _ _ _ _ _ _ _ _ _ _ c.object_at-o.result c.object_at-o.ensures _ c.own_service.ensures _
    (c.in-Some.is ∙ ap Some c.in-Template.is) c.read_template.ensures
