use Rattle.std.proofs.Common.{arith}
use Rattle.textarea_terminal.proofs.ColorLemmas.{nearest-gray, nearest-cube}
use Rattle.textarea_terminal.proofs.output.colors.nearest_indexed.Goals as goal

pub returns-then-to_gray-to_cube : goal.returns-then-to_gray-to_cube
returns-then-to_gray-to_cube c =
    nearest-gray c.args.parts _ _ _ _ _ _ _ _ c.gray_of-gray.ensures.value c.level_of-red.ensures.value c.level_of-green.ensures.value c.level_of-blue.ensures.value
    c.gray_parts.ensures c.cube_parts.ensures c.distance_between-to_gray.ensures c.distance_between-to_cube.ensures c.if-to_gray-to_cube.true

pub returns-else-to_gray-to_cube : goal.returns-else-to_gray-to_cube
returns-else-to_gray-to_cube c =
    nearest-cube c.args.parts _ _ _ _ _ _ _ _ c.gray_of-gray.ensures.value c.level_of-red.ensures.value c.level_of-green.ensures.value c.level_of-blue.ensures.value
    c.gray_parts.ensures c.cube_parts.ensures c.distance_between-to_gray.ensures c.distance_between-to_cube.ensures (omega arith)
