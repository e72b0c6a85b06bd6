use Rattle.std.proofs.Common.{◌≡◌, false, Some}
use Rattle.textarea_files.proofs.DiskLemmas.{asked}
use Rattle.textarea_files.proofs.disk.DiskFile.save.Goals as goal

pub returns-in-Some : goal.returns-in-Some
returns-in-Some g c =
    let never : c.args.overwrites ≡ false = cc in
    let found : c.question.result ≡ Some c.in-Some.question = cc in
    asked c.args.self.now c.args.name.now c.args.text.now c.args.overwrites c.stamp_of.result c.question.result c.in-Some.question never c.question.ensures found
