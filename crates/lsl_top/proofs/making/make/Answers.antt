use Rattle.lsl_top.specs.Answers.{Makes}
use Rattle.lsl_top.specs.Ports.{log, wire}
use Rattle.lsl_top.proofs.Finishing.{concludes-memory}
use Rattle.lsl_ports.specs.Trips.{Honest}
use Rattle.lsl_image.specs.Images.{IsIntact}
use Rattle.lsl_top.proofs.making.make.Goals as goal

pub returns-in-Err : goal.returns-in-Err
returns-in-Err g c =
    concludes-memory g.L.Link.gives (Honest IsIntact) (λ from. Unit {0})
    (λ grade from trips. Makes grade from trips c.args.number)
    (log (g.K.Sink.sunk c.args.sink.now) (g.K.Sink.faults c.args.sink.now))
    (wire (g.L.Link.trips c.args.link.now) (g.L.Link.faults c.args.link.now))
