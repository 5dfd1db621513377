use Rattle.std.proofs.Common.{arith, ap, subst, sym, ◌≡◌, ◌+◌, ◌<◌, Some, length, slice_get}
use Rattle.lsl_code.specs.Bodies.{plain_body}
use Rattle.lsl_weave.specs.Layout.{width, save_width, back_width, saves_from, backs_from, place_of}
use Rattle.lsl_weave.specs.Tables.{IsTable, block_width}
use Rattle.lsl_weave.proofs.Sums.{looks_at}
use Rattle.lsl_weave.proofs.tables.tables_of.Goals as goal

pub returns : goal.returns
returns c =
    let b = plain_body c.args.function.now in
    let code : c.as_slice-code.result.now ≡ b.code = c.as_slice-code.ensures in
    let points : c.as_slice-points.result.now ≡ b.points = c.as_slice-points.ensures in
    let slots : c.len-slots.result ≡ length b.slots = c.len-slots.ensures in
    let shift_items = c.in_ok-shifts.shifts.items in
    let save_items = c.in_ok-saves.saves.items in
    let back_items = c.in_ok-backs.backs.items in
    let shifts : IsTable 1 width b.code shift_items = subst
    (λ l. IsTable 1 width l shift_items) code c.in_ok-shifts.ensures in
    let from : c.look-saves_start.result ≡ saves_from b =
    looks_at 1 width b.code shift_items _
    (length b.code) _ c.look-saves_start.result shifts c.deref.ensures.value
    (ap length code) c.look-saves_start.ensures.inside c.look-saves_start.ensures.past in
    let saves0 = subst (λ l. IsTable c.look-saves_start.result
    (block_width c.len-slots.result 1) l save_items) points c.in_ok-saves.ensures in
    let saves1 = subst (λ n. IsTable c.look-saves_start.result
    (block_width n 1) b.points save_items) slots saves0 in
    let saves : IsTable (saves_from b) (save_width b) b.points save_items =
    subst (λ n. IsTable n (save_width b) b.points save_items) from saves1 in
    let heads : c.look-heads_start.result ≡ backs_from b =
    looks_at (saves_from b) (save_width b) b.points save_items _
    (length b.points) _ c.look-heads_start.result saves
    c.deref-2.ensures.value
    (ap length points) c.look-heads_start.ensures.inside c.look-heads_start.ensures.past in
    let start : c.in_ok-backs_start.backs_start ≡ backs_from b + 2 + length b.points =
    omega (arith, c.in_ok-plus.ensures, c.in_ok-backs_start.ensures, heads, ap length points) in
    let backs0 = subst (λ l. IsTable c.in_ok-backs_start.backs_start
    (block_width c.len-slots.result 2) l back_items) points c.in_ok-backs.ensures in
    let backs1 = subst (λ n. IsTable c.in_ok-backs_start.backs_start
    (block_width n 2) b.points back_items) slots backs0 in
    let backs : IsTable (backs_from b + 2 + length b.points) (back_width b) b.points back_items =
    subst (λ n. IsTable n (back_width b) b.points back_items) start backs1 in
    record {
      shifts_are = shifts;
      saves_are = saves;
      backs_are = backs;
      places_are =
          λ p lt. subst (λ l. slice_get c.in_ok-places.places.items p ≡ Some (place_of p l)) code
          (c.in_ok-places.ensures p (subst (λ l. p < length l) (sym points) lt));
    }
