-- A handler ended, or its script stops for good.
use Rattle.std.proofs.Common.{◌≡◌, ℕ, ◌+◌, List, ◌∷◌, Bool, Option, Some, min, refl, sym, ap, ◌∙◌, subst}
use Rattle.std.specs.Prelude.{is_some}
use Rattle.lsl_value.specs.declared.names.EventId.TheVariants as event
use Rattle.lsl_value.specs.declared.tagged.Value.{Value}
use Rattle.lsl_running.specs.declared.ends.Fault.{Fault}
use Rattle.lsl_running.specs.declared.ends.Outcome.{Outcome}
use Rattle.lsl_running.specs.declared.kept.Kept.{Kept}
use Rattle.lsl_running.specs.Charging.{charges_of}
use Rattle.lsl_code.specs.declared.woven_units.Woven.{Woven as Code}
use Rattle.lsl_machine.specs.declared.standing.Standing.{Standing}
use Rattle.lsl_machine.specs.declared.standing.Standing.TheVariants as standing
use Rattle.lsl_post.specs.declared.entries.Entry.TheVariants as entry
use Rattle.lsl_post.specs.declared.parts.ScriptParts.{ScriptParts}
use Rattle.lsl_script.specs.declared.closing.Closed.{Closed}
use Rattle.lsl_script.specs.declared.going.Going.{Going}
use Rattle.lsl_script.specs.declared.live.Live.{Live}
use Rattle.lsl_script.specs.Awake.{HasEnded, HasEndedAs, HasLeft, IsAwake, IsLeft}
use Rattle.lsl_script.specs.Closing.{ClosesAs, count_gone, going_after, gone_parts}
use Rattle.lsl_script.specs.Codes.{globals_in, rules_of}
use Rattle.lsl_script.specs.Fitting.{FitsUnit, has_handler}
use Rattle.lsl_script.specs.Handlers.{ended, failed, going_of, gone, resting_charge}
use Rattle.lsl_script.specs.Lives.{Carries, entries_of_clearing}
use Rattle.lsl_script.specs.Parts.{parts_of}
use Rattle.lsl_script.specs.Resting.{failed_parts, keeping}
use Rattle.lsl_script.specs.Scripts.{Script, handles}
use Rattle.lsl_script.proofs.Goes.{charge_is, gone_fits, gone_is, gone_lawful, gone_told, left_parts, left_script}
use Rattle.lsl_script.proofs.Posting.{handler_is}

-- how it ended
pub ended_way : (unit : Code) (outcome : Option Outcome) (z : Standing) (kept : Kept) → HasEndedAs unit outcome z kept
    → (way : Outcome) × (z ≡ standing.Ended way) × (outcome ≡ Some way) × HasLeft unit way kept
ended_way unit outcome (standing.Ended way) kept h = (way, refl, h.0, h.1)
ended_way unit outcome standing.Ready kept h = absurd h
ended_way unit outcome standing.Full kept h = absurd h
ended_way unit outcome standing.AtTick kept h = absurd h
ended_way unit outcome (standing.Asking id) kept h = absurd h
ended_way unit outcome standing.Lost kept h = absurd h

pub closes_as : (codes : List Code) (unit : Code) (s : Script) (live : Live) (kept : Kept) (way : Outcome) (number : ℕ)
    (going : Going) (closed : Closed) → Carries codes unit s live → IsLeft kept
    → going ≡ going_of live.parts.leaving live.parts.state (has_handler unit.states live.parts.state
    event.StateExit) way
    → closed.script ≡ gone_parts unit going (left_parts live.parts kept)
    → closed.charge ≡ min (1024 + charges_of kept.globals) 18446744073709551615
    → closed.cleared ≡ count_gone going live.parts.queue
    → ClosesAs codes number s kept way closed
closes_as codes unit s live kept way number going closed c left is script charge cleared =
    let to = going_of s.leaving s.state (handles (rules_of codes) s.code s.state event.StateExit) way in
    let exits : has_handler unit.states s.state event.StateExit ≡ handles (rules_of codes) s.code s.state
    event.StateExit =
    ap is_some (sym (handler_is codes s.code s.state event.StateExit unit c.known)) in
    let there : going ≡ to =
    is
    ∙ ap (λ (p : ScriptParts). going_of p.leaving p.state (has_handler unit.states p.state event.StateExit) way) c.parts
    ∙ ap (λ b. going_of s.leaving s.state b way) exits in
    let left_is : left_parts live.parts kept ≡ parts_of codes (left_script s kept) =
    ap (λ (p : ScriptParts). left_parts p kept) c.parts in
    let queue : live.parts.queue ≡ s.mailbox.queue = ap (λ (p : ScriptParts). p.queue) c.parts in
    let told : (gone (rules_of codes) number (record s { kept = kept }) to).entries
    ≡ entries_of_clearing number closed.cleared =
    gone_told codes unit s kept number c.known to
    ∙ ap (entries_of_clearing number)
    (ap (λ g. count_gone g s.mailbox.queue) (sym there) ∙ ap (count_gone going) (sym queue) ∙ sym cleared) in
    record {
      script = script ∙ ap (gone_parts unit going) left_is
          ∙ ap (λ g. gone_parts unit g (parts_of codes (left_script s kept))) there
          ∙ gone_is codes unit s kept number c.known to;
      lawful = gone_lawful codes unit s kept number c.known c.timing to;
      entries = ap (λ n. entry.Done number n ∷ (gone (rules_of codes) number (record s { kept = kept }) to).entries)
          (sym (charge ∙ charge_is kept left))
          ∙ ap (λ es. entry.Done number closed.charge ∷ es) told;
    }

-- a script that stops for good
pub fails_as : (codes : List Code) (unit : Code) (s : Script) (live : Live) (fault : Fault) (number : ℕ)
    → Carries codes unit s live
    → failed_parts unit fault live.parts ≡ parts_of codes (failed (rules_of codes) number s fault).value
fails_as codes unit s live fault number c =
    ap {A = ScriptParts} {B = ScriptParts} (failed_parts unit fault) c.parts
    ∙ ap {A = List Value} {B = ScriptParts}
    (λ globals. record (parts_of codes (failed (rules_of codes) number s fault).value) { globals = globals })
    (ap (λ (o : Option Code). globals_in o) (sym c.known))

-- what the code of a handler's end works with
pub record IsClosing (unit : Code) (live : Live) (kept : Kept) (mid new : ScriptParts) (outcome : Outcome)
    (exits : Bool)
    (going : Going) : Type 0 where
  pub has : kept ≡ live.machine.machine.kept
  pub mid_is : mid ≡ left_parts live.parts kept
  pub ended : live.outcome ≡ Some outcome
  pub exits_are : exits ≡ has_handler unit.states mid.state event.StateExit
  pub going_is : going ≡ going_of mid.leaving mid.state exits outcome
  pub new_is : new ≡ gone_parts unit going mid

closing_goes : (unit : Code) (live : Live) (kept : Kept) (mid new : ScriptParts) (outcome : Outcome) (exits : Bool)
    (going : Going) → IsClosing unit live kept mid new outcome exits going
    → going
    ≡ going_of live.parts.leaving live.parts.state (has_handler unit.states live.parts.state event.StateExit) outcome
closing_goes unit live kept mid new outcome exits going c =
    c.going_is ∙ ap (λ b. going_of mid.leaving mid.state b outcome) c.exits_are
    ∙ ap (λ (p : ScriptParts). going_of p.leaving p.state (has_handler unit.states p.state event.StateExit)
    outcome) c.mid_is

-- the charge is that of what the machine has
pub closing_charge : (unit : Code) (live : Live) (kept : Kept) (charge : ℕ) → HasEnded unit live
    → kept ≡ live.machine.machine.kept → charge ≡ min (1024 + charges_of kept.globals) 18446744073709551615
    → charge ≡ resting_charge live.machine.machine.kept
closing_charge unit live kept charge ended has is =
    let w = ended_way unit live.outcome live.machine.standing live.machine.machine.kept ended in
    is ∙ ap (λ (k : Kept). min (1024 + charges_of k.globals) 18446744073709551615) has
    ∙ charge_is live.machine.machine.kept w.3.left

module _ (unit : Code) (live : Live) (kept : Kept) (mid new : ScriptParts) (outcome : Outcome) (exits : Bool)
    (going : Going) (closing : IsClosing unit live kept mid new outcome exits going) (way : Outcome)
    (so : live.outcome ≡ Some way)
  where
    goes_so : going ≡ going_after unit live.parts way
    goes_so =
        let some : Some outcome ≡ Some way = sym closing.ended ∙ so in
        let one : outcome ≡ way = cc in
        closing_goes unit live kept mid new outcome exits going closing ∙ ap (going_after unit live.parts) one

    pub closing_parts : new ≡ gone_parts unit (going_after unit live.parts way)
        (keeping live.machine.machine.kept live.parts)
    closing_parts =
        closing.new_is ∙ ap (gone_parts unit going) closing.mid_is
        ∙ ap {A = Kept} {B = ScriptParts} (λ k. gone_parts unit going (keeping k live.parts)) closing.has
        ∙ ap {A = Going} {B = ScriptParts} (λ g. gone_parts unit g (keeping live.machine.machine.kept live.parts))
        goes_so

    pub closing_cleared : (cleared : Option ℕ) → cleared ≡ count_gone going mid.queue
        → cleared ≡ count_gone (going_after unit live.parts way) live.parts.queue
    closing_cleared cleared is =
        is ∙ ap (λ (p : ScriptParts). count_gone going p.queue) closing.mid_is
        ∙ ap (λ (g : Going). count_gone g live.parts.queue) goes_so

pub closes_fits : (unit : Code) (live : Live) (kept : Kept) (mid new : ScriptParts) (outcome : Outcome) (exits : Bool)
    (going : Going) → IsAwake unit live → HasEnded unit live → IsClosing unit live kept mid new outcome exits going
    → FitsUnit unit new
closes_fits unit live kept mid new outcome exits going a ended c =
    let w = ended_way unit live.outcome live.machine.standing live.machine.machine.kept ended in
    let same : Some w.0 ≡ Some outcome = sym w.2 ∙ c.ended in
    let one : w.0 ≡ outcome = cc in
    let left : HasLeft unit outcome kept =
    subst (λ o. HasLeft unit o kept) one (subst (HasLeft unit w.0) (sym c.has) w.3) in
    subst (FitsUnit unit)
    (sym (c.new_is ∙ ap (gone_parts unit going) c.mid_is
    ∙ ap (λ g. gone_parts unit g (left_parts live.parts kept)) (closing_goes unit live kept mid new outcome exits
    going c)))
    (gone_fits unit live.parts kept a.idle a.states left.kinds left.left.least left.left.limit outcome left.outcome)

pub closing_is : (codes : List Code) (unit : Code) (s : Script) (live : Live) (kept : Kept) (mid new : ScriptParts)
    (outcome way : Outcome) (exits : Bool) (going : Going) (number : ℕ) (closed : Closed) → HasEnded unit live
    → IsClosing unit live kept mid new outcome exits going → Carries codes unit s live
    → live.machine.standing ≡ standing.Ended way
    → closed.script ≡ new → closed.charge ≡ min (1024 + charges_of kept.globals) 18446744073709551615
    → closed.cleared ≡ count_gone going mid.queue
    → ClosesAs codes number s live.machine.machine.kept way closed
closing_is codes unit s live kept mid new outcome way exits going number closed ended c carries stands script charge
    cleared =
    let w = ended_way unit live.outcome live.machine.standing live.machine.machine.kept ended in
    let same : Some w.0 ≡ Some outcome = sym w.2 ∙ c.ended in
    let one : w.0 ≡ outcome = cc in
    let end : standing.Ended w.0 ≡ standing.Ended way = sym w.1 ∙ stands in
    let two : w.0 ≡ way = cc in
    let there : outcome ≡ way = sym one ∙ two in
    subst (λ k. ClosesAs codes number s k way closed) c.has
    (subst (λ o. ClosesAs codes number s kept o closed) there
    (closes_as codes unit s live kept outcome number going closed carries (subst IsLeft (sym c.has) w.3.left)
    (closing_goes unit live kept mid new outcome exits going c)
    (script ∙ c.new_is ∙ ap (gone_parts unit going) c.mid_is) charge
    (cleared ∙ ap (λ (p : ScriptParts). count_gone going p.queue) c.mid_is)))
