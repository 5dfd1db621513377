-- Who says what, and who hears it.
use Rattle.std.proofs.Common.{◌≡◌, ◌≢◌, ℕ, ◌⊎◌, inl, inr, Bool, true, false, List, [], ◌∷◌, length, get_or, refl, ap, sym, ◌∙◌, arith}
use Rattle.std.specs.Prelude.{◌&&◌, ◌||◌, not, nat_lt, Some, slice_get, slice_set}
use Rattle.std.specs.List.{Any, list_any}
use Rattle.std.specs.Ordering.{int_eq}
use Rattle.std.specs.Str.{bytes_eq}
use Rattle.std.proofs.lemmas.Bool.{and_parts, false≢true, or_cases}
use Rattle.std.proofs.lemmas.Bool.Decides.{Decides-int_eq, nat_tests}
use Rattle.std.proofs.lemmas.List.Folds.{Any-from_list_any, list_any-from_Any}
use Rattle.std.proofs.lemmas.Option.{get_or_from_slice_get, slice_get_within}
use Rattle.std.proofs.lemmas.Slice.Eq.{bytes_eq-Decides}
use Rattle.lsl_value.specs.declared.names.BuiltinId.TheVariants as builtin
use Rattle.lsl_post.specs.declared.entries.Voice.TheVariants as voice
use Rattle.lsl_post.specs.declared.filters.Filter.{Filter}
use Rattle.lsl_post.specs.declared.listen.Listen.{Listen}
use Rattle.lsl_post.specs.Filters.{is_any_id, is_nothing}
use Rattle.lsl_post.specs.Listens.{is_heard}
use Rattle.lsl_region.specs.declared.objects.Linkset.{Linkset}
use Rattle.lsl_region.specs.declared.objects.Primitive.{Primitive}
use Rattle.lsl_region.specs.Answers.{nothing, replied, with_name}
use Rattle.lsl_region.specs.ChatLaws.{AsksWhatIsSaid, Hears, IsPrimOf, OwnersAreTold, PrimsAreNamed, ScriptsHearByTheirListens, SpeaksAs, spoken}
use Rattle.lsl_region.specs.Posting.{hears_said}
use Rattle.lsl_region.specs.Texts.{cut_name, cut_speech}
use Rattle.lsl_region.specs.Worlds.{Member, World, no_object, no_prim, object_of, prim_at, prim_of}
use Rattle.lsl_region.proofs.Placed.{slice_get-set_same}

own-prim : (w : World) (m : Member) (prim : Primitive) → IsPrimOf w m prim → prim_of w m ≡ prim
own-prim w m prim is = get_or_from_slice_get (object_of w m).prims m.prim prim no_prim is.prim_there

pub says : SpeaksAs builtin.Say voice.Say
says r place m prim channel text w is =
    ap (λ p. replied nothing (spoken r place voice.Say p channel (cut_speech text) w)) (own-prim w m prim is)

pub whispers : SpeaksAs builtin.Whisper voice.Whisper
whispers r place m prim channel text w is =
    ap (λ p. replied nothing (spoken r place voice.Whisper p channel (cut_speech text) w)) (own-prim w m prim is)

pub shouts : SpeaksAs builtin.Shout voice.Shout
shouts r place m prim channel text w is =
    ap (λ p. replied nothing (spoken r place voice.Shout p channel (cut_speech text) w)) (own-prim w m prim is)

pub owners : OwnersAreTold
owners r place m text w = refl

-- what was set is read
set-read : {X : Type 0} (xs : List X) (n : ℕ) (x y d : X) → slice_get xs n ≡ Some x → get_or (slice_set xs n y) n d ≡ y
set-read xs n x y d e =
    get_or_from_slice_get (slice_set xs n y) n y d (slice_get-set_same xs n y (slice_get_within xs n x e))

pub names : PrimsAreNamed
names r place m prim text w is =
    let o = object_of w m in
    let named : Linkset =
    record o { prims = with_name o.prims m.prim (cut_name text) } in
    ap (λ (x : Linkset). prim_at x.prims m.prim) (set-read w.objects m.object o named no_object is.object_there)
    ∙ set-read o.prims m.prim prim _ no_prim is.prim_there
    ∙ ap {A = Primitive} {B = Primitive} (λ p. record { key = p.key; name = cut_name text }) (own-prim w m prim is)

-- texts that are wild or the same
same-text : (a b : List ℕ) → bytes_eq a b ≡ true → a ≡ b
same-text a b e = (bytes_eq-Decides a b).0 e

text-same : (a b : List ℕ) → a ≡ b → bytes_eq a b ≡ true
text-same a b e = (bytes_eq-Decides a b).1 e

is-none : (text : List ℕ) → is_nothing text ≡ true → text ≡ []
is-none [] e = refl
is-none (c ∷ text) e =
    let some : nat_lt 0 (length (c ∷ text)) ≡ true = grind (arith, nat_tests) in
    absurd (false≢true (sym (ap not some) ∙ e))

none-is : (text : List ℕ) → text ≡ [] → is_nothing text ≡ true
none-is text e = ap is_nothing e

both : (a b : Bool) → a ≡ true → b ≡ true → (a && b) ≡ true
both true b e f = f
both false b e f = absurd cc

first-of : (a b : Bool) → a ≡ true → (a || b) ≡ true
first-of true b e = refl
first-of false b e = absurd cc

second-of : (a b : Bool) → b ≡ true → (a || b) ≡ true
second-of true b e = refl
second-of false b e = e

either-text : (wild : Bool) (P : Type 0) (a b : List ℕ) → (wild ≡ true → P) → (wild || bytes_eq a b) ≡ true
    → P ⊎ (a ≡ b)
either-text wild P a b is e = go (or_cases wild (bytes_eq a b) e) where
  go : (wild ≡ true) ⊎ (bytes_eq a b ≡ true) → P ⊎ (a ≡ b)
  go (inl k) = inl (is k)
  go (inr k) = inr (same-text a b k)

text-either : (wild : Bool) (P : Type 0) (a b : List ℕ) → (P → wild ≡ true) → P ⊎ (a ≡ b)
    → (wild || bytes_eq a b) ≡ true
text-either wild P a b is (inl k) = first-of wild (bytes_eq a b) (is k)
text-either wild P a b is (inr k) = second-of wild (bytes_eq a b) (text-same a b k)

-- the four tests of a listen
abbrev names_it : Filter → Listen → Bool
names_it said l = is_nothing l.name || bytes_eq l.name said.name

abbrev knows_it : Filter → Listen → Bool
knows_it said l = is_any_id l.id || bytes_eq l.id said.id

abbrev awaits_it : Filter → Listen → Bool
awaits_it said l = is_nothing l.message || bytes_eq l.message said.message

abbrev tunes_in : Filter → Listen → Bool
tunes_in said l = int_eq l.channel said.channel

asks-from : (said : Filter) (l : Listen) → is_heard said l ≡ true → AsksWhatIsSaid said l
asks-from said l e =
    let (active, fits) = and_parts l.active
    (((tunes_in said l && names_it said l) && knows_it said l) && awaits_it said l) e in
    let (three, message) = and_parts ((tunes_in said l && names_it said l) && knows_it said l) (awaits_it said l)
    fits in
    let (two, id) = and_parts (tunes_in said l && names_it said l) (knows_it said l) three in
    let (channel, name) = and_parts (tunes_in said l) (names_it said l) two in
    record {
      active = active;
      channel = (Decides-int_eq l.channel said.channel).0 channel;
      name = either-text (is_nothing l.name) (l.name ≡ []) l.name said.name (is-none l.name) name;
      id = either-text (is_any_id l.id) (is_any_id l.id ≡ true) l.id said.id (λ k. k) id;
      message = either-text (is_nothing l.message) (l.message ≡ []) l.message said.message (is-none l.message) message;
    }

from-asks : (said : Filter) (l : Listen) → AsksWhatIsSaid said l → is_heard said l ≡ true
from-asks said l a =
    both l.active (((tunes_in said l && names_it said l) && knows_it said l) && awaits_it said l) a.active
    (both ((tunes_in said l && names_it said l) && knows_it said l) (awaits_it said l)
    (both (tunes_in said l && names_it said l) (knows_it said l)
    (both (tunes_in said l) (names_it said l) ((Decides-int_eq l.channel said.channel).1 a.channel)
    (text-either (is_nothing l.name) (l.name ≡ []) l.name said.name (none-is l.name) a.name))
    (text-either (is_any_id l.id) (is_any_id l.id ≡ true) l.id said.id (λ k. k) a.id))
    (text-either (is_nothing l.message) (l.message ≡ []) l.message said.message (none-is l.message) a.message))

any-map : {X : Type 0} (P Q : X → Type 0) (xs : List X) → ((x : X) → P x → Q x) → Any P xs → Any Q xs
any-map P Q xs f (k, x, within, at, p) = (k, x, within, at, f x p)

not-true : (b : Bool) → not b ≡ true → b ≡ false
not-true true e = absurd cc
not-true false e = refl

pub hears : ScriptsHearByTheirListens
hears said w m = (forth, back) where
  key : List ℕ
  key = (prim_of w m).key

  listens : List Listen
  listens = m.script.mailbox.listens.list

  forth : hears_said said w m ≡ true → Hears said w m
  forth e =
      let (apart, heard) = and_parts (not (bytes_eq key said.id)) (list_any (is_heard said) listens) e in
      record {
        apart = λ same. absurd (let k = text-same key said.id same in let n = not-true (bytes_eq key said.id)
            apart in cc);
        listen = any-map (λ l. is_heard said l ≡ true) (AsksWhatIsSaid said) listens (asks-from said)
            (Any-from_list_any (is_heard said) listens heard);
      }

  apart-is : key ≢ said.id → (b : Bool) → bytes_eq key said.id ≡ b → not b ≡ true
  apart-is apart true e = absurd (apart (same-text key said.id e))
  apart-is apart false e = refl

  back : Hears said w m → hears_said said w m ≡ true
  back h =
      both (not (bytes_eq key said.id)) (list_any (is_heard said) listens)
      (apart-is h.apart (bytes_eq key said.id) refl)
      (list_any-from_Any (is_heard said) listens
      (any-map (AsksWhatIsSaid said) (λ l. is_heard said l ≡ true) listens (from-asks said) h.listen))
