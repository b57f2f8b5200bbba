-- What is known of a page before it is asked for, what one page brings, and the walk over the entries due.
use Rattle.std.specs.Prelude.{◌≡◌, true, List, [], ◌∷◌, ℕ, suc, ◌+◌, ◌-◌, ◌≤◌, ◌<◌, length, take}
use Rattle.std.specs.Prelude.{Option, None, Some}
use Rattle.laws.specs.Put.{put}
use Rattle.laws.specs.Tests.{every}
use Rattle.definition.specs.Bytes.{counted}
use Rattle.definition.specs.Tables.{Tables}
use Rattle.definition.specs.Page.{Entry, id_of, bytes_of, fitting}
use Rattle.definition.specs.Symbols.{is_listed, due}
use Rattle.definition.specs.Answer.{answer}
use Rattle.model.specs.Tables.{tables_of, flags_of}
use Rattle.model.specs.declared.Controller.{Controller}
use Rattle.model.specs.declared.least.Next.{Next}
use Rattle.listing.specs.Numbers.{numbers_in}
use Rattle.listing.specs.declared.numbers.Numbers.{Numbers}
use Rattle.listing.specs.declared.pages.Page.{Page}
use Rattle.whole.specs.declared.pages.Listing.{Listing}
use Rattle.whole.specs.declared.asked.Turn.{Turn}
use Rattle.whole.specs.declared.asked.Turn.TheVariants.{Last, More}
use Rattle.whole.specs.Asked.{Taken}
use Rattle.whole.specs.Lists.{is_askable, scope_of, entries_of, list_request, longest}

-- ---- a page that is granted

pub record Granted (t : Tables) (program attributes : List ℕ) (scope : ℕ) (numbers : List ℕ) : Type 0 where
  pub scope_is : scope_of t program ≡ Some scope
  pub numbers_are : counted attributes ≡ Some numbers
  pub accepted : every is_listed numbers ≡ true

-- ---- a list of numbers that is long enough and of which every number is known

abbrev pub Accepted : (attributes : List ℕ) → Option Numbers → Type 0
Accepted attributes None = (t : Tables) (program : List ℕ) → entries_of t program attributes ≡ None
Accepted attributes (Some numbers) = (counted attributes ≡ Some (numbers_in numbers)) × (every is_listed (numbers_in numbers) ≡ true)

-- ---- the same of a controller, a listing and a page as the code has them

abbrev pub ListTaken : Controller → (memory : List ℕ) → Listing → (limit buffer : ℕ) → Type 0
ListTaken c memory listing limit buffer =
    Taken (is_askable listing.program.now listing.attributes.now) (tables_of c.tables) memory limit buffer

abbrev pub ListGranted : Tables → Listing → Page → Type 0
ListGranted t listing page = Granted t listing.program.now listing.attributes.now page.start.scope (numbers_in page.numbers)

-- the first page, where one is granted; else there are no entries
abbrev pub FirstPage : Tables → Listing → Option Page → Type 0
FirstPage t listing None = entries_of t listing.program.now listing.attributes.now ≡ None
FirstPage t listing (Some page) = ListGranted t listing page × (page.start.id ≡ 0)

-- what it is answered with from an ID on
abbrev pub answer_at : Controller → (memory : List ℕ) → Listing → (id limit : ℕ) → List ℕ
answer_at c memory listing id limit =
    (answer (tables_of c.tables) (flags_of c.flags) memory (list_request listing.program.now listing.attributes.now id) limit).reply

abbrev pub due_on : Tables → Page → List Entry
due_on t page = due t page.start.scope (numbers_in page.numbers) page.start.id

-- ---- the walk over the entries due

-- all bytes of them and room for the longest, or an entry that is too long
abbrev pub Measured : List Entry → (limit : ℕ) → Option ℕ → Type 0
Measured entries limit (Some n) = (n ≡ length (bytes_of entries)) × (4 + longest entries ≤ limit)
Measured entries limit None = limit < 4 + longest entries

-- what a page lists
abbrev pub front : (limit : ℕ) → List Entry → List Entry
front limit entries = take (fitting (limit - 4) entries) entries

-- the last listed ID plus one; the start where nothing is listed
unfoldable pub next_id : (start : ℕ) → List Entry → ℕ
next_id start [] = start
next_id start (e ∷ es) = next_id (suc (id_of e)) es

-- a bound that something is due from is a start ID
abbrev pub start_by : (bound : ℕ) → Option Next → Option ℕ
start_by bound None = None
start_by bound (Some next) = Some bound

-- the page behind a page starts at the last listed ID plus one, where what is left is due, or nothing is left
abbrev pub StartsAt : Tables → (scope : ℕ) (attributes : List ℕ) (start : ℕ) (listed left : List Entry) → Option ℕ → Type 0
StartsAt t scope attributes start listed left (Some id) = (id ≡ next_id start listed) × (due t scope attributes id ≡ left)
StartsAt t scope attributes start listed left None = left ≡ []

-- ---- one page's entries, joined at the number of bytes received: all that are due, or as many as fit

abbrev pub BringsPage : List Entry → (limit got : ℕ) (old : List ℕ) → Turn → (new : List ℕ) → Type 0
BringsPage entries limit got old (Last n) new =
    (n ≡ got + length (bytes_of entries)) × (new ≡ put old got (bytes_of entries)) × (fitting (limit - 4) entries ≡ length entries)
BringsPage entries limit got old (More n) new =
    (n ≡ got + length (bytes_of (front limit entries))) × (got < n) × (new ≡ put old got (bytes_of (front limit entries)))
    × (fitting (limit - 4) entries < length entries)

pub record Paged (entries : List Entry) (limit got : ℕ) (old : List ℕ) (v : Turn) (new : List ℕ) : Type 0 where
  pub is : BringsPage entries limit got old v new
