use Rattle.std.proofs.Common.{refl}
use Rattle.rows.proofs.RowLaws.{load_legal, loaded}
use Rattle.rows.proofs.make.pair.Goals as goal

pub returns : goal.returns
returns c = record {
  legal = load_legal c.args.a.now c.args.y c.args.q c.args.q c.args.p _ _ _ c.requires.0.legal c.requires.1 refl c.load.ensures.0 c.load.ensures.1;
  digits = loaded c.args.a.now c.args.y c.args.q c.args.p _ _ _ refl c.load.ensures.0 c.load.ensures.1;
}
