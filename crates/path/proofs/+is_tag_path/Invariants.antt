-- Each call looks at a later segment, so fewer are left.
use Rattle.path.specs.Paths.{segments_left}
use Rattle.path.proofs.+is_tag_path.Given as goal

abbrev pub decreases-is_tag_path : goal.decreases-is_tag_path
decreases-is_tag_path l = segments_left l.path.now l.at
