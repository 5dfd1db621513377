use Rattle.std.proofs.Common.{◌≡◌, ◌∙◌, ◌≤◌, ◌<◌, ap, subst, true, false, ℕ, List, arith}
use Rattle.lsl_post.specs.declared.parts.Pair.{Pair}
use Rattle.lsl_data.specs.Answers.{holds, pairs_after}
use Rattle.lsl_data.specs.Pairs.{bytes_of, value_at, with_pair}
use Rattle.lsl_data.proofs.Answering.{write-full, write-same, write-stored}
use Rattle.lsl_data.proofs.Keeping.{kept-put}
use Rattle.lsl_data.proofs.store.Store.put.Goals as goal

pub returns-in-None-clause-answer : goal.returns-in-None-clause-answer
returns-in-None-clause-answer c =
    let p = c.args.pair in
    write-same c.args.self.now p.name p.value c.requires.name c.requires.value
    (subst (λ (ps : List Pair). holds (value_at ps p.name) p.value ≡ true) c.self.view_is c.in-None.ensures)

pub returns-in-None-clause-after : goal.returns-in-None-clause-after
returns-in-None-clause-after c =
    ap (λ w. pairs_after w c.args.self.now c.args.pair.name c.args.pair.value) (returns-in-None-clause-answer c)

pub returns-in-Some-clause-answer : goal.returns-in-Some-clause-answer
returns-in-Some-clause-answer c =
    let p = c.args.pair in
    write-full c.args.self.now p.name p.value c.requires.name c.requires.value
    (subst (λ (ps : List Pair). holds (value_at ps p.name) p.value ≡ false) c.self.view_is c.in-Some.ensures.0)
    (subst (λ (n : ℕ). 65536 < n) (c.in-Some.ensures.1 ∙ ap (λ ps. bytes_of (with_pair ps p)) c.self.view_is)
    c.if-used-gt-MOST_BYTES.true)

pub returns-in-Some-clause-after : goal.returns-in-Some-clause-after
returns-in-Some-clause-after c =
    ap (λ w. pairs_after w c.args.self.now c.args.pair.name c.args.pair.value) (returns-in-Some-clause-answer c)

pub invariant_of-self-in-Some-2 : goal.invariant_of-self-in-Some-2
invariant_of-self-in-Some-2 c =
    kept-put c.self.inside.pairs.entries c.put.new.map.entries c.self.inside.used c.self.invariant c.put.ensures.named
    c.args.pair c.in-Some.used c.requires c.in_ok-put-in-Some-2.ensures.ok c.in-Some.ensures.1 (omega arith)

pub returns-in_ok-put-in-Some-2-clause-answer : goal.returns-in_ok-put-in-Some-2-clause-answer
returns-in_ok-put-in-Some-2-clause-answer c =
    let p = c.args.pair in
    write-stored c.args.self.now p.name p.value c.requires.name c.requires.value
    (subst (λ (ps : List Pair). holds (value_at ps p.name) p.value ≡ false) c.self.view_is c.in-Some.ensures.0)
    (subst (λ (n : ℕ). n ≤ 65536) (c.in-Some.ensures.1 ∙ ap (λ ps. bytes_of (with_pair ps p)) c.self.view_is)
    (omega arith))

pub returns-in_ok-put-in-Some-2-clause-after : goal.returns-in_ok-put-in-Some-2-clause-after
returns-in_ok-put-in-Some-2-clause-after c =
    c.in_ok-put-in-Some-2.ensures.ok ∙ ap (λ ps. with_pair ps c.args.pair) c.self.view_is
    ∙ ap (λ w. pairs_after w c.args.self.now c.args.pair.name c.args.pair.value)
    (returns-in_ok-put-in-Some-2-clause-answer c)
