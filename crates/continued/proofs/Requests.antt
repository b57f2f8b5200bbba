-- What the definition makes of the exact bytes of a continued read and of a page's request, and of any data behind them.
-- Assumes nothing.
use mathlib.Core.Path.{◌≡◌, refl, ◌∙◌}
use mathlib.Core.Bool.{Bool, true, false}
use mathlib.Core.List.{List, [], ◌∷◌, ◌++◌, append_assoc}
use Rattle.std.specs.Prelude.{Option, None, Some}
use Prim.Native.Nat.{ℕ, ◌+◌, ◌*◌, ◌/◌, ◌≤◌, ◌<◌}
use native.Mathlib.Nat.{div-div-eq-div-mul}
use native.Mathlib.Omega.{arith}
use lib.Dec.{ltb, eqb, lit≤}
use lib.ListN.{length, get_or, drop, length-append}
use lib.Seq.{take-append_seam, drop-append_seam, drop-append-add}
use borrow.Author.Tests.{le-ltb, eqb-true}
use Rattle.laws.specs.Pick.{either}
use Rattle.laws.specs.Sorted.{All}
use Rattle.laws.specs.Tests.{every}
use Rattle.laws.proofs.Chain.{by_test, clash}
use Rattle.laws.proofs.Tests.{every-All}
use Rattle.definition.specs.Bytes.{u16_at, u32_at, le16, le32, part, numbers, counted}
use Rattle.definition.specs.Segment.{Segment, segments}
use Rattle.definition.specs.Request.{request, with_path, request_of, object_of}
use Rattle.definition.specs.Tables.{Tables, Flags}
use Rattle.definition.specs.Read.{read_fields}
use Rattle.definition.specs.Symbols.{is_listed}
use Rattle.definition.specs.Answer.{by_service, plain, answer}
use Rattle.definition.proofs.OneRead.{past_objects}
use Rattle.continued.specs.Point3.{Memory, Asks, FragmentedAsks, PlainAsks, AsksPage, Encodes, read_request, open_request, number_bytes, page_request}
use Rattle.continued.specs.Point3.{StartsPageAt}

-- ---- numbers and their bytes

pub u16_le16 : (n : ℕ) (rest : List ℕ) → n < 65536 → u16_at (le16 n ++ rest) 0 ≡ n
u16_le16 n rest h = omega arith

pub u32_le32 : (n : ℕ) (rest : List ℕ) → n < 4294967296 → u32_at (le32 n ++ rest) 0 ≡ n
u32_le32 n rest h = omega (arith, div-div-eq-div-mul n 256 256, rw (div-div-eq-div-mul n 65536 256) at (u16_le16 (n / 65536) rest (omega arith)))

number_bytes_length : (ns : List ℕ) → length (number_bytes ns) ≡ 2 * length ns
number_bytes_length [] = refl
number_bytes_length (n ∷ ns) = omega (arith, number_bytes_length ns)

numbers_back : (ns more : List ℕ) → All (λ n. n < 65536) ns → numbers (length ns) (number_bytes ns ++ more) ≡ ns
unfolding numbers
numbers_back [] more a = refl
numbers_back (n ∷ ns) more a = rw (u16_le16 n (number_bytes ns ++ more) a.0, numbers_back ns more a.1)

counted_back : (ns more : List ℕ) → length ns < 65536 → All (λ n. n < 65536) ns → counted (le16 (length ns) ++ (number_bytes ns ++ more)) ≡ Some ns
unfolding counted
counted_back ns more h a =
    let fits : 2 + 2 * length ns ≤ length
    (le16 (length ns) ++ (number_bytes ns ++ more)) = omega (arith, number_bytes_length ns, length-append (number_bytes ns) more) in
    rw (u16_le16 (length ns) (number_bytes ns ++ more) h, le-ltb, numbers_back ns more a)

-- an attribute of those accepted is a small number
one_of : (n k : ℕ) (rest : Bool) → k < 65536 → (rest ≡ true → n < 65536) → either (eqb n k) rest ≡ true → n < 65536
one_of n k rest h more e = by_test (eqb n k) (λ t. omega (arith, eqb-true n k t)) (λ t. more (rw t at e))

pub listed_small : (n : ℕ) → is_listed n ≡ true → n < 65536
unfolding is_listed
listed_small n =
    one_of n 1 _ (lit≤ tt) (one_of n 2 _ (lit≤ tt) (one_of n 3 _ (lit≤ tt) (one_of n 5 _ (lit≤ tt)
    (one_of n 6 _ (lit≤ tt) (one_of n 7 _ (lit≤ tt) (one_of n 8 _ (lit≤ tt) (λ e. omega (arith, eqb-true n 10 e))))))))

-- ---- the message

pub decoded-request : (service : ℕ) (path : List ℕ) (decoded : List Segment) (body : List ℕ) → Encodes path decoded
    → request_of (service ∷ length path / 2 ∷ path ++ body) ≡ request service decoded body
unfolding request_of
decoded-request service path decoded body e =
    let fits : 2 + length path ≤ length (service ∷ length path / 2 ∷ path ++ body) = omega (arith, length-append path body) in
    rw (
      e.whole_words,
      drop-append-add (service ∷ length path / 2 ∷ []) (path ++ body) (length path),
      le-ltb,
      take-append_seam path body,
      drop-append_seam,
      e.decodes,
    )

-- a message that decodes begins with its service
pub service_first : (message : List ℕ) (service : ℕ) (path : List Segment) (body : List ℕ) → request_of message ≡ request service path body
    → get_or message 0 0 ≡ service
unfolding request_of
service_first message service path body e =
    let size = 2 * get_or message 1 0 in
    by_test (ltb (length message) (2 + size)) (λ t. clash (cc (rw t at e))) (λ t. go (segments (part message 2 size)) (rw t at e))
  where
    go : (l : Option (List Segment)) → with_path (get_or message 0 0) l (drop (2 + 2 * get_or message 1 0) message) ≡ request service path body
        → get_or message 0 0 ≡ service
    go None q = clash (cc q)
    go (Some l) q = cc

-- ---- exact bytes, with any data behind them, are a continued read and a continued page

pub fragmented_asks : FragmentedAsks
unfolding read_fields
fragmented_asks path message body e long = record { service = 0x52; body = body; reads = refl; is = e; fields_are = rw (le-ltb (length body) 6 long) }

pub plain-asks : PlainAsks
unfolding read_fields
plain-asks path message body e long = record { service = 0x4C; body = body; reads = refl; is = e; fields_are = rw (le-ltb (length body) 2 long) }

pub exact_asks : (path : List ℕ) (decoded : List Segment) (elements offset : ℕ) (more : List ℕ) → Encodes path decoded → elements < 65536 → offset < 4294967296
    → Asks decoded elements (read_request path elements offset ++ more) offset
unfolding read_request
exact_asks path decoded elements offset more e few low =
    let body = le16 elements ++ (le32 offset ++ more) in
    let same = append_assoc (path ++ le16 elements) (le32 offset) more ∙ append_assoc path (le16 elements) (le32 offset ++ more) in
    let is : request_of (read_request path elements offset ++ more) ≡ request 0x52 decoded body = rw same (decoded-request 0x52 path decoded body e) in
    rw (u16_le16 elements (le32 offset ++ more) few, u32_le32 offset more low) at (fragmented_asks decoded _ body is (omega arith))

pub exact_opens : (path : List ℕ) (decoded : List Segment) (elements : ℕ) (more : List ℕ) → Encodes path decoded → elements < 65536
    → Asks decoded elements (open_request path elements ++ more) 0
unfolding open_request
exact_opens path decoded elements more e few =
    let body = le16 elements ++ more in
    let same = append_assoc path (le16 elements) more in
    let is : request_of (open_request path elements ++ more) ≡ request 0x4C decoded body = rw same (decoded-request 0x4C path decoded body e) in
    rw (u16_le16 elements more few) at (plain-asks decoded _ body is (omega arith))

pub exact_page : (t : Tables) (scope : ℕ) (attributes path : List ℕ) (id : ℕ) (more : List ℕ) → length attributes < 65536 → every is_listed attributes ≡ true
    → StartsPageAt t scope id path → AsksPage t scope attributes (page_request path attributes ++ more) id
unfolding page_request
exact_page t scope attributes path id more few accepted s = record {
  path = s.decoded;
  body = le16 (length attributes) ++ (number_bytes attributes ++ more);
  is = rw (
    append_assoc (path ++ le16 (length attributes)) (number_bytes attributes) more,
    append_assoc path (le16 (length attributes)) (number_bytes attributes ++ more),
  )
      (decoded-request 0x55 path s.decoded (le16 (length attributes) ++ (number_bytes attributes ++ more)) s.encodes);
  starts = s.starts;
  list_is = counted_back attributes more few (every-All is_listed _ listed_small attributes accepted);
}

-- ---- the dispatcher on exact bytes

-- a service that is no envelope's and no object's own goes to the services proper
pub to_service : (t : Tables) (f : Flags) (m : Memory) (service : ℕ) (path : List ℕ) (decoded : List Segment) (body : List ℕ) (limit : ℕ)
    → Encodes path decoded → eqb service 0x0A ≡ false → eqb service 0x03 ≡ false → eqb service 0x4C ≡ false
    → answer t f m (service ∷ length path / 2 ∷ path ++ body) limit ≡ by_service t f m service decoded body limit
unfolding answer plain
to_service t f m service path decoded body limit e a b c =
    rw (decoded-request service path decoded body e, a) (past_objects t f m service (object_of decoded) decoded body limit b c)
