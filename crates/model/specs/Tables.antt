-- The tables, the flags and a target as the code has them, in the definition's terms.
use Rattle.std.specs.Prelude.{◌≡◌, true, List, ℕ, ◌+◌, ◌*◌, ◌/◌, ◌%◌, ◌≤◌, ◌<◌, eqb}
use Rattle.definition.specs.Tables.{Tables, Row, Flags as DefinedFlags}
use Rattle.definition.specs.Types.{size_in}
use Rattle.definition.specs.Valid.{valid}
use Rattle.definition.specs.Resolve.{Target as DefinedTarget}
use Rattle.model.specs.declared.Flags.{Flags}
use Rattle.model.specs.declared.tables.Tables.{Tables as Lent}
use Rattle.model.specs.declared.Target.{Target}

-- bit 0 multi-service, 1 instance IDs, 2 AOI locals refused, 3 micro800
abbrev pub flags_in : ℕ → DefinedFlags
flags_in word = record {
  multi_service = eqb (word % 2) 1;
  instance_ids = eqb (word / 2 % 2) 1;
  aoi_locals_refused = eqb (word / 4 % 2) 1;
  micro800 = eqb (word / 8 % 2) 1;
}

-- the lent slices
abbrev pub tables_of : Lent → Tables
tables_of t = record {
  structures = t.structures.now;
  members = t.members.now;
  programs = t.programs.now;
  tags = t.tags.now;
  others = t.others.now;
  names = t.names.now;
  tag_names = t.tag_names.now;
  templates = t.templates.now;
}

-- eight slices that are lent one by one
abbrev pub tables_from : (structures members programs tags others : List Row) (names tag_names templates : List ℕ) → Tables
tables_from structures members programs tags others names tag_names templates = record {
  structures = structures;
  members = members;
  programs = programs;
  tags = tags;
  others = others;
  names = names;
  tag_names = tag_names;
  templates = templates;
}

-- ---- some of the tables
--
-- A function is lent the tables that it looks at, and what it says holds whatever the others are: `lent o` is the table set `o` with the
-- lent tables in it.

-- of every table set
abbrev pub Whatever : (lent : Tables → Tables) → (Tables → Type 0) → Type 0
Whatever lent P = (o : Tables) → P (lent o)

-- of every valid one
abbrev pub WhereValid : (lent : Tables → Tables) → (Tables → Type 0) → Type 0
WhereValid lent P = (o : Tables) (memory : ℕ) → valid (lent o) memory ≡ true → P (lent o)

-- there is a valid one
pub record SomeValid (lent : Tables → Tables) : Type 0 where
  pub rest : Tables
  pub memory : ℕ
  pub ok : valid (lent rest) memory ≡ true

-- what is lent to resolve a path; to find its tag in a scope, with or without a program's name; to walk on from there
abbrev pub for_path : (structures members programs tags : List Row) (names tag_names : List ℕ) → Tables → Tables
for_path structures members programs tags names tag_names o =
    tables_from structures members programs tags o.others names tag_names o.templates

abbrev pub for_start : (programs tags : List Row) (names tag_names : List ℕ) → Tables → Tables
for_start programs tags names tag_names o =
    tables_from o.structures o.members programs tags o.others names tag_names o.templates

abbrev pub for_walk : (structures members : List Row) (names : List ℕ) → Tables → Tables
for_walk structures members names o = for_path structures members o.programs o.tags names o.tag_names o

-- to list symbols; to find the scope that is listed; to make a page of a scope's symbols
abbrev pub for_list : (structures programs tags others : List Row) (names tag_names : List ℕ) → Tables → Tables
for_list structures programs tags others names tag_names o =
    tables_from structures o.members programs tags others names tag_names o.templates

abbrev pub for_scope : (programs : List Row) (names : List ℕ) → Tables → Tables
for_scope programs names o = for_start programs o.tags names o.tag_names o

abbrev pub for_page : (structures tags others : List Row) (names tag_names : List ℕ) → Tables → Tables
for_page structures tags others names tag_names o = for_list structures o.programs tags others names tag_names o

-- to answer a symbol's attributes; a template
abbrev pub for_attributes : (programs tags others : List Row) (names : List ℕ) → Tables → Tables
for_attributes programs tags others names o = for_list o.structures programs tags others names o.tag_names o

abbrev pub for_template : (structures : List Row) (templates : List ℕ) → Tables → Tables
for_template structures templates o =
    tables_from structures o.members o.programs o.tags o.others o.names o.tag_names templates

-- ---- flags and targets

abbrev pub flags_of : Flags → DefinedFlags
flags_of f = record {
  multi_service = f.multi_service;
  instance_ids = f.instance_ids;
  aoi_locals_refused = f.aoi_locals_refused;
  micro800 = f.micro800;
}

-- a target with the lengths of the array that is still open, which no service minds once a path is resolved
abbrev pub target_of : Target → (lengths : List ℕ) → DefinedTarget
target_of g lengths = record {
  tag = g.tag;
  start = g.start;
  type = g.ty;
  count = g.count;
  lengths = lengths;
  bit = g.bit;
  access = g.access;
}

-- what a service leans on: the size is the type's, and the elements lie in a tag memory of so many bytes
pub record Aimed (structures : List Row) (memory : ℕ) (g : Target) : Type 0 where
  pub size_is : g.size ≡ size_in structures g.ty
  pub some_bytes : 0 < g.size
  pub some_elements : 0 < g.count
  pub in_memory : g.start + g.count * g.size ≤ memory
  pub small_memory : memory ≤ 65536
  pub bit : g.bit ≤ 8
