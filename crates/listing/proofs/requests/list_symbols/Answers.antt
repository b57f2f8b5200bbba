-- The definition's refusals in its order: the start, the list, its numbers; what is left is the page.
use Rattle.model.specs.Tables.{tables_of}
use Rattle.listing.specs.Numbers.{numbers_in}
use Rattle.listing.proofs.Starts.{lists-unknown, lists-missing, lists-refused, lists_page, page_valid, few-programs}
use Rattle.listing.proofs.requests.list_symbols.Goals as goal

pub page_start-requires : goal.page_start-requires
page_start-requires c = few-programs (tables_of c.args.t.now) c.requires.0

pub returns-in_default : goal.returns-in_default
returns-in_default c = lists-unknown (tables_of c.args.t.now) c.args.q.now _ _ _ _ c.in_default.ensures c.fail.ensures

pub returns-in_default-read : goal.returns-in_default-read
returns-in_default-read c =
    lists-missing (tables_of c.args.t.now) c.args.q.now _ _ _ _ _ c.in-Some.ensures c.in_default-read.ensures c.fail-in_default-read.ensures

pub returns-then-not-all_listed : goal.returns-then-not-all_listed
returns-then-not-all_listed c =
    lists-refused (tables_of c.args.t.now) c.args.q.now _ _ _ _ _ c.in-Some.ensures _ c.in-Some-read.ensures c.if-not-all_listed.ensures
    c.fail-then-not-all_listed.ensures

pub put-requires : goal.put-requires
put-requires c = (page_valid (tables_of c.args.t.now) c.requires.0, c.requires.1)

pub returns : goal.returns
returns c =
    lists_page (tables_of c.args.t.now) c.args.q.now _ _ _ _ _ c.in-Some.ensures (numbers_in c.in-Some-read.numbers) c.in-Some-read.ensures
    c.if-not-all_listed.ensures c.put.ensures
