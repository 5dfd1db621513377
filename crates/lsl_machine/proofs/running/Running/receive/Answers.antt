use Rattle.std.proofs.Common.{arith, [], ◌∷◌}
use Rattle.lsl_code.specs.Machine.{put}
use Rattle.lsl_machine.proofs.Answering.{none_went, some_went, full_went, push_only}
use Rattle.lsl_machine.proofs.running.Running.receive.Goals as goal

pub push-requires : goal.push-requires
push-requires c = c.requires.held

pub unreachable-requires : goal.unreachable-requires
unreachable-requires c =
    let h = c.requires.held in
    let ok = c.args.self.now.stack.ok.0 in
    push_only (put h.0 [] h.1 h.2 h.3 (c.in-Some.value ∷ h.4) h.5) c.push.result c.push.new.self
    (c.push.ensures.done h.0 h.1 h.2 h.3 h.4 h.5 h.6) (λ e. c.push.ensures.memory c.requires.room e)
    (λ e. c.in_default.not-Goes e) (λ x e. c.in_default.not-Faults x e)

pub returns-in-None : goal.returns-in-None
returns-in-None c =
    record {
      ready = tt;
      laid = c.requires.held;
      room = omega arith;
      went =
          λ more. rw c.in-None.is (none_went c.args.self.now more c.requires.held);
    }

pub returns-in-Goes : goal.returns-in-Goes
returns-in-Goes c =
    let h = c.requires.held in
    record {
      ready = tt;
      laid = (some_went c.args.self.now c.push.new.self c.in-Some.value [] h
          (c.in-Goes.ensures.done h.0 h.1 h.2 h.3 h.4 h.5 h.6)).1;
      room = c.in-Goes.ensures.room;
      went = λ more. rw c.in-Some.is
          (some_went c.args.self.now c.push.new.self c.in-Some.value more h
          (c.in-Goes.ensures.done h.0 h.1 h.2 h.3 h.4 h.5 h.6)).0;
    }

pub returns-in-Faults-clause-went : goal.returns-in-Faults-clause-went
returns-in-Faults-clause-went c more =
    let h = c.requires.held in
    rw c.in-Some.is (full_went c.args.self.now c.push.new.self c.in-Some.value more c.in-Faults.field-0 h
    (c.in-Faults.ensures.done h.0 h.1 h.2 h.3 h.4 h.5 h.6))
