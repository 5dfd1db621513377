use Rattle.std.proofs.Common.{◌≡◌, ◌∙◌, List, ℕ, [], ◌∷◌, ◌++◌, Result, Ok, Err, OnErr, ap, append_assoc, rules}
use Rattle.lsl_bytes.specs.Fields.{u32_bytes}
use Rattle.lsl_bytes.proofs.PlaceLemmas.{front-kept}
use Rattle.lsl_bytes.proofs.elements.append_items.Goals as goal

at_err : {T E : Type 0} (r : Result T E) {P Q : Type 0} → (P → Q) → OnErr r P → OnErr r Q
at_err (Ok x) then h = tt
at_err (Err e) then h = then h

pub returns-clause-front : goal.returns-clause-front
returns-clause-front c =
    let counted : c.push_u32.new.out.items ≡ c.args.out.now.items ++ (7 ∷ u32_bytes c.len.result) =
    c.in_ok-push_u32.ensures.ok ∙ ap (λ (t : List ℕ). t ++ u32_bytes c.len.result) c.in_ok-push.ensures.items
    ∙ append_assoc c.args.out.now.items (7 ∷ []) (u32_bytes c.len.result) in
    at_err c.append_atoms.result
    (front-kept c.args.out.now.items c.push_u32.new.out.items c.append_atoms.new.out.items _ _ _ (search rules) counted)
    c.append_atoms.ensures.front
