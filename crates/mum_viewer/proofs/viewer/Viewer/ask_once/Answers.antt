use Rattle.mum_viewer.proofs.Common.{rules}
use Rattle.mum_viewer.proofs.viewer.Viewer.ask_once.Goals as goal

pub returns : goal.returns
returns g c = record {
  answer = c.ask-answer.result;
  counted = search rules;
  gave = search rules;
  stopped = search rules;
  failed = search rules;
  limit = search rules;
  answers = search rules;
}
