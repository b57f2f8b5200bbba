-- The statement on reads, for any controller and any events, where continued reads are answered by fragments: `read_law` is what the proof asks of its
-- definition, and that a refusal leaves the state.
-- Assumes nothing.
use mathlib.Core.Path.{◌≡◌, refl, ap, ◌∙◌}
use mathlib.Core.Logic.{◌≢◌, inl, inr}
use mathlib.Core.List.{List, [], ◌∷◌}
use Prim.Native.Nat.{ℕ, ◌+◌, ◌≤◌, ◌<◌}
use native.Mathlib.Omega.{arith}
use lib.ListN.{length, drop, length-drop}
use lib.Seq.{drop-drop, drop-append_seam}
use Rattle.definition.specs.Reply.{reply}
use Rattle.definition.specs.Fragment.{fragment_reply}
use Rattle.definition.specs.Entry.{Outcome, refused, replied}
use Rattle.continued.specs.Reads.{Sent, Turn, ours, other, Answered, joined, last_status, heard, Replied, Quiet, talk, Fair, Delivered}
use Rattle.continued.proofs.Chain.{Chain, start, next, End, all, some, ends, delivered}

-- a reply that sends of what is due as much as fits the limit, whatever the request's service
abbrev pub SendsFragment : Outcome → (header due : List ℕ) (limit : ℕ) → Type 0
SendsFragment o header due limit = (service : ℕ) × (o ≡ replied (fragment_reply service header due limit))

module _ (S header : List ℕ) where
  more_due : 0 < length S → (t : List Answered) → Chain S (length header) t → last_status t ≢ 0 → length (joined t) < length S
  more_due p t c n = go (ends S (length header) p c)
    where
      go : End S (length header) t → length (joined t) < length S
      go (all z e) = absurd (n z)
      go (some z e) = e

  -- a read turn: the state stays as it was, and what is heard is a fragment more or nothing
  turn : {State : Type 0} (limit : ℕ) (o : Outcome) (m left : State) (t : List Answered) → Chain S (length header) t → last_status t ≢ 0
      → (Replied o → 5 + length header ≤ limit)
      → (Replied o → SendsFragment o header (drop (length (joined t)) S) limit × (left ≡ m))
      → ((Replied o → ⊥) → left ≡ m)
      → (left ≡ m) × Chain S (length header) (heard (length header) limit o t)
  unfolding fragment_reply reply
  turn limit (refused k) m left t c n l law kept = (kept (λ r. r), c)
  turn limit (replied r) m left t c n l law kept =
      let same : r ≡ fragment_reply (law tt).0.0 header (drop (length (joined t)) S) limit = cc (law tt).0.1 in
      ((law tt).1, rw (same, ← drop-drop (length header) 4, length-drop, drop-append_seam) (next limit c n (l tt)))

-- with none of ours left nothing more is heard
pub quiet_talk : {State Event : Type 0} (hear : Sent → State → Outcome) (after : Sent → State → State) (step : Event → State → State)
    (h : ℕ) (m : State) (t : List Answered) (rest : List (Turn Event)) → Quiet rest → talk hear after step h m t rest ≡ t
unfolding talk
quiet_talk hear after step h m t [] q = refl
quiet_talk hear after step h m t (ours s ∷ rest) q = absurd q
quiet_talk hear after step h m t (other e ∷ rest) q = quiet_talk hear after step h (step e m) t rest q

-- `read_law`: a read of the selected bytes at an offset, answered at a limit.
-- `Fits`: the states that it holds of, which ours and what may fall between keep
module _ {State Event : Type 0} (hear : Sent → State → Outcome) (after : Sent → State → State) (step : Event → State → State)
    (reads : State → Sent → ℕ → Type 0) (selected : State → List ℕ) (header : List ℕ) (Fits : State → Type 0) (between : Event → State → Type 0)
    (keeps : (s : Sent) (m : State) → Fits m → Fits (after s m))
    (stays : (e : Event) (m : State) → between e m → Fits m → Fits (step e m))
    (read_law : (s : Sent) (m : State) (offset : ℕ) → Fits m → reads m s offset → offset < length (selected m) → Replied (hear s m)
    → SendsFragment (hear s m) header (drop offset (selected m)) s.limit × (after s m ≡ m))
    (refusal-law : (s : Sent) (m : State) → (Replied (hear s m) → ⊥) → after s m ≡ m) where
  chain : (S : List ℕ) → 0 < length S → (turns : List (Turn Event)) (m : State) (t : List Answered) → Fits m → selected m ≡ S → Chain S (length header) t
      → Fair hear after step reads selected between (length header) m t turns → Chain S (length header) (talk hear after step (length header) m t turns)
  unfolding Fair talk
  chain S q [] m t f e c p = c
  chain S q (ours s ∷ rest) m t f e c p =
      let law = read_law s m (length (joined t)) f p.0 (omega (arith, more_due S header q t c p.1, ap length e)) in
      let x = turn S header s.limit (hear s m) m (after s m) t c p.1 p.2 (rw e at law) (refusal-law s m) in
      chain S q rest (after s m) (heard (length header) s.limit (hear s m) t) (keeps s m f) (ap selected x.0 ∙ e) x.1 p.3
  chain S q (other u ∷ rest) m t f e c (inl quiet) = rw (quiet_talk hear after step (length header) (step u m) t rest quiet) c
  chain S q (other u ∷ rest) m t f e c (inr p) = chain S q rest (step u m) t (stays u m p.1 f) (p.0 ∙ e) c p.2

  pub reads_deliver : (m : State) (turns : List (Turn Event)) → Fits m → 0 < length (selected m)
      → Fair hear after step reads selected between (length header) m [] turns
      → Delivered (selected m) (length header) (talk hear after step (length header) m [] turns)
  reads_deliver m turns f q fair = delivered (selected m) (length header) q _ (chain (selected m) q turns m [] f refl start fair)
