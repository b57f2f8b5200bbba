-- Which service answers, as the code has it.
use Rattle.std.specs.Prelude.{Bool, not, List, ℕ, eqb, Option, None, Some}
use Rattle.laws.specs.Pick.{pick, both}
use Rattle.definition.specs.Reply.{Answer, answered}
use Rattle.definition.specs.Request.{Object as Defined, object, no_object}
use Rattle.definition.specs.Tables.{Row}
use Rattle.definition.specs.Resolve.{Target}
use Rattle.definition.specs.Read.{read_reply}
use Rattle.definition.specs.Write.{store_answer, write_stored}
use Rattle.definition.specs.Masked.{masked_stored}
use Rattle.definition.specs.Answer.{is_read}
use Rattle.path.specs.declared.Object.{Object}
use Rattle.services.specs.declared.Own.{Own}
use Rattle.services.specs.declared.Own.TheVariants.{SymbolList, StructureList, Template}

-- `on_target` of a target that was found, by the tables that it uses
abbrev pub on_found : (structures : List Row) (memory : List ℕ) (service : ℕ) → Target → (body : List ℕ) (limit : ℕ) → Answer
on_found structures memory service g body limit =
    pick (is_read service) (answered (read_reply structures memory service g body limit) memory)
    (pick (eqb service 0x4E) (store_answer service (masked_stored memory g body) memory)
    (store_answer service (write_stored structures memory service g body) memory))

-- a path's object, what follows it aside
abbrev pub object_is : Option Object → Defined
object_is None = no_object
object_is (Some o) = object o.class o.instance

-- the tests of `by_object`
abbrev pub own_by : (class instance service : ℕ) (micro800 : Bool) → Option Own
own_by class i service micro800 =
    pick (both (eqb class 0x6B) (both (eqb service 0x03) (not micro800))) (Some (SymbolList i))
    (pick (both (eqb class 0x6C) (eqb service 0x03)) (Some (StructureList i))
    (pick (both (eqb class 0x6C) (eqb service 0x4C)) (Some (Template i)) None))

abbrev pub own_of : Option Object → (service : ℕ) (micro800 : Bool) → Option Own
own_of None service micro800 = None
own_of (Some o) service micro800 = own_by o.class o.instance service micro800
