use Rattle.multiply.proofs.ReadLaws.{goes_none}
use Rattle.multiply.proofs.input.read_text.Goals as goal

pub loop-bytes-init : goal.loop-bytes-init
loop-bytes-init c = goes_none c.args.buffer.now
