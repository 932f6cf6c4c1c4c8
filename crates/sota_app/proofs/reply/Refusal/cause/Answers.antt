use Rattle.sota_app.proofs.TextWords.{word_text}
use Rattle.sota_app.proofs.reply.Refusal.cause.Goals as goal

pub of_word-requires : goal.of_word-requires
of_word-requires c = rw c.word.ensures (word_text c.args.self.now)
