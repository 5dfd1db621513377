use Rattle.std.proofs.Common.{sym, subst, arith, ℤ, List, [], w32}
use Rattle.std.specs.Prelude.{pos}
use Rattle.std.proofs.lemmas.Int.{to_z-of_z}
use Rattle.lsl_post.specs.declared.listen.Listen.{Listen}
use Rattle.lsl_post.specs.Listens.{is_number, standing, IsStanding}
use Rattle.lsl_post.proofs.Standings.{standing-next, standing-none}
use Rattle.lsl_image.specs.Layout.{I32}
use Rattle.lsl_image.specs.Script.{listens}
use Rattle.lsl_image.proofs.FieldLemmas.{i32-fits_that}
use Rattle.lsl_image.proofs.ListenLemmas.{field_that-told, standing-grown}
use Rattle.lsl_image.proofs.LeadingLemmas.{leads-all, leads-ends, leads-exits, leads-then}
use Rattle.lsl_image.proofs.listens.read_listens.Goals as goal

pub returns-in_err-number : goal.returns-in_err-number
unfolding listens
returns-in_err-number c =
    leads-exits _ _ _ _ (leads-all c.args.bytes.now (listens) c.args.place) c.in_err-number.ensures
    c.from_residual.ensures.1

pub returns-in_err-count : goal.returns-in_err-count
unfolding listens
returns-in_err-count c =
    leads-exits _ _ _ _ (leads-then _ _ (leads-all c.args.bytes.now (listens) c.args.place) c.in_ok-number.ensures)
    c.in_err-count.ensures.read c.from_residual-in_err-count.ensures.1

pub returns-in_err-list : goal.returns-in_err-list
unfolding listens
returns-in_err-list c =
    leads-exits _ _ _ _ (leads-then _ _ (leads-then _ _
    (leads-all c.args.bytes.now (listens) c.args.place) c.in_ok-number.ensures) c.in_ok-count.ensures.read)
    c.in_err-list.ensures c.from_residual-in_err-list.ensures.1

pub from_list-requires : goal.from_list-requires
from_list-requires c =
    let same = to_z-of_z w32 c.in_ok-number.number (i32-fits_that c.args.bytes.now is_number c.args.place
    c.in_ok-number.number c.in_ok-number.middle c.in_ok-number.ensures) in
    let number = field_that-told c.args.bytes.now I32 is_number c.args.place c.in_ok-number.number
    c.in_ok-number.middle c.in_ok-number.ensures in
    let stand = standing-grown c.args.bytes.now c.in_ok-number.number c.in_ok-count.count [] c.in_ok-list.list
    c.in_ok-count.start c.in_ok-list.next (omega (arith, c.in_ok-count.ensures.within))
    (standing-next (pos 1) c.in_ok-number.number [] standing-none number) c.in_ok-list.ensures in
    subst (λ (n : ℤ). IsStanding (standing n c.into_vec.result.items)) (sym same)
    (subst (λ (ls : List Listen). IsStanding (standing c.in_ok-number.number ls)) (sym c.into_vec.ensures) stand)

pub returns : goal.returns
unfolding listens
returns c =
    let same = to_z-of_z w32 c.in_ok-number.number (i32-fits_that c.args.bytes.now is_number c.args.place
    c.in_ok-number.number c.in_ok-number.middle c.in_ok-number.ensures) in
    rw (c.in_ok-listens.ensures, same, c.into_vec.ensures) (leads-ends (leads-then _ _ (leads-then _ _
    (leads-then _ _ (leads-all c.args.bytes.now listens c.args.place) c.in_ok-number.ensures)
    c.in_ok-count.ensures.read) c.in_ok-list.ensures))
