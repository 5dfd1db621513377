use Rattle.std.proofs.Common.{[], Option, refl, sym, subst}
use Rattle.lsl_top.specs.Meant.{asked_by}
use Rattle.lsl_top.specs.Promise.{Keeps}
use Rattle.lsl_top.specs.Words.{Command, command_of}
use Rattle.lsl_top.specs.declared.status.Status.TheVariants.{Usage}
use Rattle.lsl_top.proofs.Promises.{promise-usage, promise-nothing, promise-kept, promise-read, promise-complete, promise-headline}
use Rattle.lsl_top.proofs.Trips.{went-none}
use Rattle.lsl_top.proofs.lsl.Goals as goal

pub returns-in-Some-clause-usage : goal.returns-in-Some-clause-usage
returns-in-Some-clause-usage g c =
    promise-usage g.L.Link.gives (g.S.Shelf.held c.args.shelf.now) (command_of c.args.words.now)
    (asked_by c.in-Some.command) c.in-Some.ensures _ _ c.serve.result c.serve.ensures

pub returns-in-Some-clause-nothing : goal.returns-in-Some-clause-nothing
returns-in-Some-clause-nothing g c =
    promise-nothing g.L.Link.gives (g.S.Shelf.held c.args.shelf.now) (command_of c.args.words.now)
    (asked_by c.in-Some.command) c.in-Some.ensures _ _ c.serve.result c.serve.ensures

pub returns-in-Some-clause-kept : goal.returns-in-Some-clause-kept
returns-in-Some-clause-kept g c =
    promise-kept g.L.Link.gives (g.S.Shelf.held c.args.shelf.now) (command_of c.args.words.now)
    (asked_by c.in-Some.command) c.in-Some.ensures _ _ c.serve.result c.serve.ensures

pub returns-in-Some-clause-read_fault : goal.returns-in-Some-clause-read_fault
returns-in-Some-clause-read_fault g c =
    promise-read g.L.Link.gives (g.S.Shelf.held c.args.shelf.now) (command_of c.args.words.now)
    (asked_by c.in-Some.command) c.in-Some.ensures _ _ c.serve.result c.serve.ensures

pub returns-in-Some-clause-complete : goal.returns-in-Some-clause-complete
returns-in-Some-clause-complete g c =
    promise-complete g.L.Link.gives (g.S.Shelf.held c.args.shelf.now) (command_of c.args.words.now)
    (asked_by c.in-Some.command) c.in-Some.ensures _ _ c.serve.result c.serve.ensures

pub returns-in-Some-clause-headline : goal.returns-in-Some-clause-headline
returns-in-Some-clause-headline g c =
    promise-headline g.L.Link.gives (g.S.Shelf.held c.args.shelf.now) (command_of c.args.words.now)
    (asked_by c.in-Some.command) c.in-Some.ensures _ _ c.serve.result c.serve.ensures

pub returns-in-None-clause-kept : goal.returns-in-None-clause-kept
returns-in-None-clause-kept g c = (
  [],
  went-none g.L.Link.gives (g.L.Link.trips c.args.link.now),
  λ e. refl,
  λ honest. subst (λ (w : Option Command). Keeps (g.S.Shelf.held c.args.shelf.now) [] w Usage
      (g.K.Sink.sunk c.args.sink.now) (g.K.Sink.sunk c.args.sink.now)) (sym c.in-None.ensures) tt,
)

pub returns-in-Some-clause-write_fault : goal.returns-in-Some-clause-write_fault
returns-in-Some-clause-write_fault g c = c.serve.ensures.write_fault
