-- What the lookup found decides, as in the definition.
use Rattle.listing.proofs.Objects.{structure-listed, structure-unknown}
use Rattle.listing.proofs.attributes.structure_attributes.Goals as goal

pub returns-in-Some : goal.returns-in-Some
returns-in-Some c = structure-listed _ _ _ _ _ _ _ _ _ c.in-Some.ensures c.answer.ensures

pub returns-in-None : goal.returns-in-None
returns-in-None c = structure-unknown _ _ _ _ _ _ _ _ c.in-None.ensures c.refuse.ensures
