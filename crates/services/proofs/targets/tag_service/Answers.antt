-- The target is the definition's, whose open lengths no service looks at; in valid tables it lies in tag memory.
use Rattle.services.proofs.Serving.{tag_aimed, tag-turned, tag_found}
use mathlib.Core.Path.{refl}
use Rattle.model.proofs.Lent.{some-valid}
use Rattle.services.proofs.targets.tag_service.Goals as goal

pub tag_target-requires : goal.tag_target-requires
tag_target-requires c = (c.args.q.now.decodes, some-valid _ _ _ c.requires.judged refl)

pub serve-requires : goal.serve-requires
serve-requires c = (
  tag_aimed _ _ _ _ _ c.requires.judged c.args.q.now.decodes _ _ c.in-Ok.is c.tag_target.ensures,
  c.requires.room,
)

pub returns-in-Ok : goal.returns-in-Ok
returns-in-Ok c =
    tag_found _ _ _ _ _ _ _ _ c.is_write.ensures _ c.tag_target.ensures _ _ _ _ _ c.in-Ok.is c.serve.ensures

pub returns-in-Err : goal.returns-in-Err
returns-in-Err c =
    tag-turned _ _ _ _ _ _ _ _ c.is_write.ensures _ c.tag_target.ensures _ _ _ _ _ c.in-Err.is refl c.fail.ensures
