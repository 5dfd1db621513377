-- Events for one script.
use Rattle.std.proofs.Common.{◌≡◌, ℕ, ◌+◌, ◌<◌, Bool, true, false, List, length, refl, ap, sym, ◌∙◌}
use Rattle.std.specs.Prelude.{◌&&◌, if◌then◌else◌, Option, Some, None, is_some, slice_get}
use Rattle.lsl_code.specs.declared.woven_units.Woven.{Woven as Code}
use Rattle.lsl_post.specs.declared.events.Event.{Event}
use Rattle.lsl_post.specs.Told.{Told, as_value, quiet}
use Rattle.lsl_script.specs.Rules.{Rules}
use Rattle.lsl_post.specs.Mailbox.{posted, posting}
use Rattle.lsl_script.specs.Codes.{Meant, rules_of}
use Rattle.lsl_script.specs.Scripts.{Script, entries_of_posting, is_alive, post_to}
use Rattle.lsl_region.specs.declared.notice.Audience.{Audience}
use Rattle.lsl_region.specs.declared.grid.Seat.{Seat}
use Rattle.lsl_region.specs.Grids.{Contents, IsScript, Stands, key_in, seat_of}
use Rattle.lsl_region.specs.Posting.{admits, is_admitted, post_where}
use Rattle.lsl_region.specs.Worlds.{Member, World, changed_at, with_member}
use Rattle.lsl_region.proofs.Placed.{KeepsScript, at-member}
use Rattle.lsl_region.proofs.Seats.{set-same}

-- a change of the mailbox that leaves the timer as it is
pub post-script : (codes : List Code) (r : Rules) (number : ℕ) (e : Event) (s : Script) → IsScript codes false s
    → KeepsScript codes false s (post_to r number e s).value
post-script codes r number e s l =
    record {
      script = record { known = l.known; lawful = record { timing = l.lawful.timing; doing = l.lawful.doing } };
      code = refl;
    }

-- it keeps its code
pub post-code : (r : Rules) (number : ℕ) (e : Event) (s : Script) (b : Bool)
    → (if b then post_to r number e s else quiet s).value.code ≡ s.code
post-code r number e s true = refl
post-code r number e s false = refl

pub same-script : (codes : List Code) (away : Bool) (s : Script) → IsScript codes away s → KeepsScript codes away s s
same-script codes away s l = record { script = l; code = refl }

pub if-script : (codes : List Code) (away : Bool) (s : Script) (b : Bool) (t u : Told Script)
    → KeepsScript codes away s t.value → KeepsScript codes away s u.value
    → KeepsScript codes away s (if b then t else u).value
if-script codes away s true t u l k = l
if-script codes away s false t u l k = k

pub with-same : (w : World) (n : ℕ) (m : Member) → slice_get w.members n ≡ Some m → with_member w n m ≡ w
with-same w n m e = ap (λ (ms : List Member). record w { members = ms }) (set-same w.members n m e)

-- whom the seat's object, prim, key and listens admit
pub admits-is : (codes : List Code) (away : Option ℕ) (clock : ℕ) (grid : Contents) (w : World) (a : Audience)
    (seat : Seat) (m : Member) → Stands codes away clock grid w → seat ≡ seat_of codes false m
    → is_admitted a seat.object seat.prim (key_in grid.objects seat) m.script.mailbox.listens ≡ admits a w m
admits-is codes away clock grid w a seat m st is =
    ap (λ (z : Seat). is_admitted a z.object z.prim (key_in grid.objects z) m.script.mailbox.listens) is
    ∙ ap (λ (os : _). is_admitted a m.object m.prim (key_in os (seat_of codes false m)) m.script.mailbox.listens)
    st.objects

module _ (r : Rules) (a : Audience) (e : Event) (n : ℕ) (w : World) (m : Member) where
  -- the effect on a script that is one of them, or isn't
  abbrev pub thing : Told Script
  thing = if admits a w m then post_to r (n + 1) e m.script else quiet m.script

  pub thing-meant : admits a w m ≡ true → post_to r (n + 1) e m.script ≡ thing
  thing-meant is = ap (λ (b : Bool). if b then post_to r (n + 1) e m.script else quiet m.script) (sym is)

  pub post-none : slice_get w.members n ≡ Some m → admits a w m ≡ false → quiet w ≡ post_where r (admits a) e n w
  post-none at not =
      sym (at-member n (λ (k : Member). if admits a w k then post_to r (n + 1) e k.script else quiet k.script) w m at
      ∙ ap (λ (b : Bool). as_value (λ (s : Script). with_member w n (record m { script = s }))
      (if b then post_to r (n + 1) e m.script else quiet m.script)) not
      ∙ ap (λ (v : World). quiet v) (with-same w n m at))

-- The rules hear what the codes hear.
pub to-same : (codes : List Code) (m : Meant codes) (number : ℕ) (e : Event) (s : Script) → s.code < length codes
    → post_to (rules_of codes) number e s ≡ post_to m.rules number e s
to-same codes m number e s h =
    ap {A = Option ℕ} {B = Told Script} (λ o. record {
      value = record s { mailbox = posted (is_alive s.doing && is_some o) e s.mailbox };
      entries = entries_of_posting number (posting (is_alive s.doing && is_some o) e s.mailbox.queue);
    }) (sym (m.handler s.code s.state e.id h))

pub posts-same : (codes : List Code) (m : Meant codes) (away : Option ℕ) (clock : ℕ) (grid : Contents) (w : World)
    → Stands codes away clock grid w → (test : World → Member → Bool) (e : Event) (n : ℕ)
    → post_where (rules_of codes) test e n w ≡ post_where m.rules test e n w
posts-same codes m away clock grid w st test e n = go (slice_get w.members n) refl where
  go : (o : Option Member) → slice_get w.members n ≡ o
      → changed_at n (λ (k : Member). if test w k then post_to (rules_of codes) (n + 1) e k.script else quiet k.script)
      w o
      ≡ changed_at n (λ (k : Member). if test w k then post_to m.rules (n + 1) e k.script else quiet k.script) w o
  go None k = refl
  go (Some u) k =
      ap (λ (t : Told Script). as_value (λ (s : Script). with_member w n (record u { script = s }))
      (if test w u then t else quiet u.script)) (to-same codes m (n + 1) e u.script (st.scripts n u k).known)
