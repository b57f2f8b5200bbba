-- What is joined are the first of the bytes selected; the rest ends with the same chunk, and each reply is laid over the one before it.
use Rattle.std.proofs.Common.{rules, arith, refl, ◌∙◌}
use Rattle.whole.proofs.Brought.{turn_taken}
use Rattle.whole.proofs.Joining.{chosen-some, chosen-few, chosen-fits, joined-none, part_holds, part_brings, reply-over, reply_last}
use Rattle.whole.proofs.Joining.{turn_more, turn_last, last_fits, chunk_on}
use Rattle.whole.proofs.joins.join_all.Goals as goal

pub loop-n-init : goal.loop-n-init
loop-n-init c =
    (refl, chosen-some c.requires.taken c.requires.joins c.args.read.now.small, joined-none _, refl, (refl, refl), refl)

pub overflow_cast-got : goal.overflow_cast-got
overflow_cast-got c = let few = chosen-few c.requires.taken c.requires.joins _ c.loop-n.invariant.1 in search rules

pub join-requires : goal.join-requires
join-requires c =
    let l = c.loop-n.invariant in
    record {
      taken = turn_taken _ _ c.requires.taken l.0 l.4.1;
      holds = rw l.3 (part_holds c.requires.taken c.requires.joins l.1 c.args.read.now.small l.0);
    }

pub loop-n-preserved : goal.loop-n-preserved
loop-n-preserved c =
    let l = c.loop-n.invariant in
    let fits = chosen-fits c.requires.taken c.requires.joins in
    let brings = part_brings c.requires.taken c.requires.joins l.1 c.args.read.now.small l.0 c.join.ensures.joined in
    let b = turn_more _ fits l.2 l.1 brings _ c.in-More.is in
    let on = chunk_on _ fits l.2 l.1 brings _ c.in-More.is (omega (arith, c.requires.joins.some_room)) in (
      c.join.ensures.memory ∙ l.0,
      b.1,
      b.2,
      omega (arith, c.join.auto, l.3),
      reply-over _ _ _ c.requires.taken c.requires.joins l.0 _ l.4 c.join.ensures.buffer,
      on ∙ l.5,
    )

pub loop-n-smaller : goal.loop-n-smaller
loop-n-smaller c =
    let l = c.loop-n.invariant in
    let brings = part_brings c.requires.taken c.requires.joins l.1 c.args.read.now.small l.0 c.join.ensures.joined in
    let b = turn_more _ (chosen-fits c.requires.taken c.requires.joins) l.2 l.1 brings _ c.in-More.is in
    omega (arith, b.0, b.1)

pub returns-in-Last-clause-joined : goal.returns-in-Last-clause-joined
returns-in-Last-clause-joined c =
    let l = c.loop-n.invariant in
    turn_last _ (chosen-fits c.requires.taken c.requires.joins) l.2 l.1
    (part_brings c.requires.taken c.requires.joins l.1 c.args.read.now.small l.0 c.join.ensures.joined) _ c.in-Last.is

pub returns-in-Last-clause-buffer : goal.returns-in-Last-clause-buffer
returns-in-Last-clause-buffer c =
    let l = c.loop-n.invariant in
    let brings = part_brings c.requires.taken c.requires.joins l.1 c.args.read.now.small l.0 c.join.ensures.joined in
    let fits = last_fits _ (chosen-fits c.requires.taken c.requires.joins) l.2 l.1 brings _ c.in-Last.is in
    reply_last _ _ _ c.requires.taken c.requires.joins l.0 _ l.4 c.join.ensures.buffer c.args.read.now.small l.1 fits l.5
