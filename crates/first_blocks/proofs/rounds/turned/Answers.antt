use Rattle.first_blocks.proofs.Lanes.{turned_lane}
use Rattle.first_blocks.proofs.rounds.turned.Goals as goal

pub returns : goal.returns
returns c = λ j lt. turned_lane c.args.places c.args.a c.args.b j c.requires.some c.requires.few c.fits-a.0 c.fits-b.0 lt
