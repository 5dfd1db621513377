use Rattle.std.proofs.Common.{List, ℕ, Err, subst, slice_get}
use Rattle.lsl_image.specs.Layout.{each}
use Rattle.lsl_image.specs.Object.{body, script_of}
use Rattle.lsl_image.specs.Reading.{Gives, Reads}
use Rattle.lsl_image.proofs.LeadingLemmas.{leads-all, leads-ends, leads-exits, leads-then}
use Rattle.lsl_image.proofs.object.read_body.Goals as goal

pub returns-in_err-_found : goal.returns-in_err-_found
unfolding body
returns-in_err-_found c =
    leads-exits _ _ _ _ (leads-all c.args.bytes.now (body c.args.version c.args.shape.now c.args.library.now)
    c.args.place) c.in_err-_found.ensures c.from_residual.ensures.1

pub returns-in_err-_prims : goal.returns-in_err-_prims
unfolding body
returns-in_err-_prims c =
    leads-exits _ _ _ _ (leads-then _ _ (leads-all c.args.bytes.now
    (body c.args.version c.args.shape.now c.args.library.now) c.args.place) c.in_ok-_found.ensures)
    c.in_err-_prims.ensures c.from_residual-in_err-_prims.ensures.1

pub returns-in_err-names : goal.returns-in_err-names
unfolding body
returns-in_err-names c =
    leads-exits _ _ _ _ (leads-then _ _ (leads-then _ _
    (leads-all c.args.bytes.now (body c.args.version c.args.shape.now c.args.library.now) c.args.place)
    c.in_ok-_found.ensures) c.in_ok-_prims.ensures) c.in_err-names.ensures c.from_residual-in_err-names.ensures.1

pub returns-in_err-_count : goal.returns-in_err-_count
unfolding body
returns-in_err-_count c =
    leads-exits _ _ _ _ (leads-then _ _ (leads-then _ _
    (leads-then _ _ (leads-all c.args.bytes.now (body c.args.version c.args.shape.now c.args.library.now)
    c.args.place) c.in_ok-_found.ensures) c.in_ok-_prims.ensures) c.in_ok-names.ensures) c.in_err-_count.ensures
    c.from_residual-in_err-_count.ensures.1

pub returns-in_err-scripts : goal.returns-in_err-scripts
unfolding body
returns-in_err-scripts c =
    leads-exits _ _ _ _ (leads-then _ _ (leads-then _ _
    (leads-then _ _ (leads-then _ _ (leads-all c.args.bytes.now
    (body c.args.version c.args.shape.now c.args.library.now) c.args.place) c.in_ok-_found.ensures)
    c.in_ok-_prims.ensures) c.in_ok-names.ensures) c.in_ok-_count.ensures)
    (subst (λ (us : List ℕ). Reads c.args.bytes.now
    (each (λ number. script_of c.args.version number (slice_get c.args.library.now number)) us) c.in_ok-_count.next
    (Err c.in_err-scripts.field-0.0)) c.as_slice.ensures c.in_err-scripts.ensures)
    c.from_residual-in_err-scripts.ensures.1

pub returns-in_err-store : goal.returns-in_err-store
unfolding body
returns-in_err-store c =
    leads-exits _ _ _ _ (leads-then _ _ (leads-then _ _
    (leads-then _ _ (leads-then _ _ (leads-then _ _
    (leads-all c.args.bytes.now (body c.args.version c.args.shape.now c.args.library.now) c.args.place)
    c.in_ok-_found.ensures) c.in_ok-_prims.ensures) c.in_ok-names.ensures) c.in_ok-_count.ensures)
    (subst (λ (us : List ℕ). Gives c.args.bytes.now
    (each (λ number. script_of c.args.version number (slice_get c.args.library.now number)) us) c.in_ok-_count.next
    c.in_ok-scripts.scripts c.in_ok-scripts.next) c.as_slice.ensures c.in_ok-scripts.ensures))
    c.in_err-store.ensures c.from_residual-in_err-store.ensures.1

pub returns : goal.returns
unfolding body
returns c = rw c.in_ok-copy.ensures (leads-ends (leads-then _ _
    (leads-then _ _ (leads-then _ _ (leads-then _ _ (leads-then _ _
    (leads-then _ _ (leads-all c.args.bytes.now (body c.args.version c.args.shape.now c.args.library.now) c.args.place)
    c.in_ok-_found.ensures) c.in_ok-_prims.ensures) c.in_ok-names.ensures) c.in_ok-_count.ensures)
    (subst (λ (us : List ℕ). Gives c.args.bytes.now (each
    (λ number. script_of c.args.version number (slice_get c.args.library.now number)) us) c.in_ok-_count.next
    c.in_ok-scripts.scripts c.in_ok-scripts.next) c.as_slice.ensures c.in_ok-scripts.ensures)) c.in_ok-store.ensures))
