-- The definition's refusals, offset aside, in its order; a granted read asks for no more elements than the target has.
use Rattle.reads.proofs.Reading.{read_granted, read_refused}
use Rattle.reads.proofs.read.Goals as goal

pub returns-in-Ok : goal.returns-in-Ok
returns-in-Ok c =
    read_granted _ _ _ _ _ _ _ _ _ _ _ c.ask_of.ensures c.in-Ok.is
    c.send_selected.ensures

pub returns-in-Err : goal.returns-in-Err
returns-in-Err c = read_refused _ _ _ _ _ _ _ _ _ _ _ c.ask_of.ensures _ c.in-Err.is c.fail.ensures
