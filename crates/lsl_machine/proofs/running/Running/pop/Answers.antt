use Rattle.std.proofs.Common.{refl, sym, ap, subst, arith, ◌-◌, ◌<◌, ◌≤◌, length}
use Rattle.lsl_machine.proofs.Laying.{popped, held_pop, popped_held, charge_small, charge_within}
use Rattle.lsl_machine.proofs.running.Running.pop.Goals as goal

pub overflow_sub-self : goal.overflow_sub-self
overflow_sub-self c =
    let h = c.requires in
    let lt : c.args.self.now.active.floor < length c.args.self.now.stack.items =
    subst (λ n. c.args.self.now.active.floor < n) c.args.self.now.stack.ok.0
    (subst (λ n. c.args.self.now.active.floor < n) c.len.ensures c.if-len-self.false) in
    subst (λ n. n ≤ c.args.self.now.active.charge) (sym c.charge.ensures)
    (held_pop c.args.self.now c.pop.new.self.items c.in-Some.value h.0 h.1 h.2 h.3 h.4 h.5 h.6
    c.in-Some.ensures.items lt)

pub returns-in-Some-clause-popped : goal.returns-in-Some-clause-popped
returns-in-Some-clause-popped c g f place sl ops outer h =
    let lt : c.args.self.now.active.floor < length c.args.self.now.stack.items =
    subst (λ n. c.args.self.now.active.floor < n) c.args.self.now.stack.ok.0
    (subst (λ n. c.args.self.now.active.floor < n) c.len.ensures c.if-len-self.false) in
    popped c.args.self.now _ c.in-Some.value g f place sl ops outer h c.in-Some.ensures.items lt
    (ap (λ n. record c.args.self.now.active { charge = c.args.self.now.active.charge - n }) c.charge.ensures)
    refl refl refl refl

pub returns-in-Some-clause-held : goal.returns-in-Some-clause-held
returns-in-Some-clause-held c =
    let h = c.requires in
    let lt : c.args.self.now.active.floor < length c.args.self.now.stack.items =
    subst (λ n. c.args.self.now.active.floor < n) c.args.self.now.stack.ok.0
    (subst (λ n. c.args.self.now.active.floor < n) c.len.ensures c.if-len-self.false) in
    popped_held _ c.in-Some.value h.0 h.1 h.2 h.3 h.4 h.5
    (popped c.args.self.now _ c.in-Some.value h.0 h.1 h.2 h.3 h.4 h.5 h.6 c.in-Some.ensures.items lt
    (ap (λ n. record c.args.self.now.active { charge = c.args.self.now.active.charge - n }) c.charge.ensures)
    refl refl refl refl)

pub returns-in-Some-clause-small : goal.returns-in-Some-clause-small
returns-in-Some-clause-small c =
    let h = c.requires in
    let lt : c.args.self.now.active.floor < length c.args.self.now.stack.items =
    subst (λ n. c.args.self.now.active.floor < n) c.args.self.now.stack.ok.0
    (subst (λ n. c.args.self.now.active.floor < n) c.len.ensures c.if-len-self.false) in
    let a = held_pop c.args.self.now c.pop.new.self.items c.in-Some.value h.0 h.1 h.2 h.3 h.4 h.5 h.6
    c.in-Some.ensures.items lt in
    let b = charge_small c.args.self.now h.0 h.1 h.2 h.3 h.4 h.5 h.6 in
    omega arith

pub returns-in-Some-clause-fits : goal.returns-in-Some-clause-fits
returns-in-Some-clause-fits c =
    let h = c.requires in
    let lt : c.args.self.now.active.floor < length c.args.self.now.stack.items =
    subst (λ n. c.args.self.now.active.floor < n) c.args.self.now.stack.ok.0
    (subst (λ n. c.args.self.now.active.floor < n) c.len.ensures c.if-len-self.false) in
    let a = held_pop c.args.self.now c.pop.new.self.items c.in-Some.value h.0 h.1 h.2 h.3 h.4 h.5 h.6
    c.in-Some.ensures.items lt in
    let b = c.charge.ensures in
    let d = charge_within c.args.self.now h.0 h.1 h.2 h.3 h.4 h.5 h.6 in
    omega arith
