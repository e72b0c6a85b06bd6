use Rattle.textarea_editor.proofs.Times.{time_honest, time_made}
use Rattle.textarea_editor.proofs.draft.Draft.set_time.Goals as goal

pub returns-clause-made : goal.returns-clause-made
returns-clause-made c = record {
  made = time_made c.args.self.now.area c.set_now.new.self c.args.now c.set_now.ensures;
  honest = time_honest c.args.self.now c.set_now.new.self c.args.now c.set_now.ensures;
}
