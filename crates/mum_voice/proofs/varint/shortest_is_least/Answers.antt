use Rattle.mum_voice.proofs.{Shortest.shortest_word-spelled, Shortest.shortest_word-least, Clear.shortest-clear, Clear.shortest-only}
use Rattle.mum_voice.proofs.varint.shortest_is_least.Goals as goal

pub returns-clause-spelled : goal.returns-clause-spelled
returns-clause-spelled c = λ word lt. shortest_word-spelled word lt

pub returns-clause-least : goal.returns-clause-least
returns-clause-least c = λ word bytes s. shortest_word-least s

pub returns-clause-clear : goal.returns-clause-clear
returns-clause-clear c = λ word lt. shortest-clear word lt

pub returns-clause-only : goal.returns-clause-only
returns-clause-only c = λ word bytes s clear short. shortest-only s clear short
