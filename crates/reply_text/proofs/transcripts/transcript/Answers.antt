use Rattle.reply_text.proofs.Naming.{clients-of}
use Rattle.reply_text.proofs.transcripts.transcript.Goals as goal

pub put_order-requires-clause-known : goal.put_order-requires-clause-known
put_order-requires-clause-known c = clients-of c.args.scripts.now c.args.events.now c.requires.of
