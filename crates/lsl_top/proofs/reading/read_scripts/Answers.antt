use Rattle.std.proofs.Common.{List, ℕ, [], map, take, get_or, refl, sym, ◌∙◌, ◌+◌, subst, arith, Bor}
use Rattle.std.specs.List.{AllZip}
use Rattle.lsl_top.specs.Ports.{IsRead}
use Rattle.lsl_top.proofs.Zips.{zip-more}
use Rattle.lsl_top.proofs.reading.read_scripts.Goals as goal

pub loop-name-preserved : goal.loop-name-preserved
loop-name-preserved g c =
    let held = g.S.Shelf.held c.args.shelf.now in
    let none : Bor (List ℕ) = record { ref_ptr = (0, 0); now = [] } in
    let name : Bor (List ℕ) = get_or c.args.names.now c.loop-name.name-index none in
    let past = c.loop-name.invariant in
    let now = c.in_ok-text.ensures in
    record {
      read = subst
          (λ texts. AllZip (IsRead held) (take (c.loop-name.name-index + 1)
          (map (λ (n : Bor (List ℕ)). n.now) c.args.names.now))
          (map (λ t. t.items) texts))
          (sym c.in_ok-push_text.ensures)
          (zip-more (IsRead held) (λ (n : Bor (List ℕ)). n.now) (λ t. t.items) c.args.names.now c.loop-name.texts.items
          c.loop-name.name-index none name c.in_ok-text.text c.loop-name-test.true refl past.read
          (subst (λ h. IsRead h name.now c.in_ok-text.text.items) past.held now.ok));
      held = now.unchanged ∙ past.held;
      counted = λ name. let a = past.counted name in let b = now.counted name in omega arith;
    }
