use Rattle.std.proofs.Common.{◌≡◌, arith}
use Rattle.std.proofs.lemmas.Grind.{common_steps}
use Rattle.textarea_blocks.proofs.Shifting.{not_turned}
use Rattle.textarea_blocks.proofs.blocks.numbers.Numbers.exchange.Goals as goal
use Rattle.textarea_blocks.proofs.blocks.numbers.Numbers.exchange.Goals.{After-move_numbers}

-- the old numbers, once the difference is added
old : (c : After-move_numbers) → c.move_numbers.new.numbers.items ≡ c.args.self.now.numbers
old c = grind (arith, common_steps)

pub exchange_numbers-requires : goal.exchange_numbers-requires
exchange_numbers-requires c =
    let known = old (goal.at.exchange_numbers-requires c).After-move_numbers in
    record {
      ordered = c.requires.ordered;
      within = grind (arith, common_steps, known);
      room = grind (arith, common_steps, known);
      after = rw known c.requires.after;
      small_new = rw c.into_items-items.ensures c.requires.small_new;
    }

pub returns-clause-exchanged : goal.returns-clause-exchanged
returns-clause-exchanged c =
    let known = old (goal.at.returns-clause-exchanged c).After-move_numbers in
    rw (not_turned c.len-self-inside.result c.exchange_numbers.new.numbers.items, ← known, ← c.into_items-items.ensures) c.exchange_numbers.ensures.exchanged

pub returns-clause-room : goal.returns-clause-room
returns-clause-room c = grind (arith, common_steps, not_turned, old)
