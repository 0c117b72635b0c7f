-- `storing::put_table` meets its contract: its nine writes make the image.
use native.Mathlib.Omega.{arith}
use Rattle.executive.specs.WellFormed.{Sizes}
use Rattle.image.proofs.Trips.{image-made, wide-lines}
use Rattle.image.proofs.storing.put_table.Goals as goal

pub returns : goal.returns
returns c =
    let t = c.args.table.now in
    let sizes : Sizes t = record {
      tasks = omega arith;
      queue = omega arith;
      alarms = omega arith;
      pool = omega arith;
      subs = omega arith;
      lines = wide-lines t.rest c.put_row-5.ensures.width;
      messages = c.put_post.ensures.sizes.0;
      mail = c.put_post.ensures.sizes.1;
    } in
    image-made t sizes c.args.out.now _ _ _ _ _ _ _ _ _ c.told-out
    c.put_row.ensures.value
    c.put_row-2.ensures.value
    c.put_head.ensures
    c.put_row-3.ensures.value
    c.put_row-4.ensures.value
    c.put_pair.ensures
    c.put_all_awaited.ensures
    c.put_row-5.ensures.value
    c.put_post.ensures.value
