-- `report::put_named` meets its contract: a text and a number behind it are one piece.
use Rattle.report.specs.Text.{decimal}
use Rattle.report.proofs.NumberWritten.{named}
use Rattle.report.proofs.put_named.Goals as goal

pub returns : goal.returns
returns c =
    record {
      value = (named c.args.out.now c.args.text.now (decimal c.args.n) _ _ c.args.at _ _ c.put_text-next.ensures.value c.put_text-next.ensures.out_after
          c.put_number.ensures.value c.put_number.ensures.out_after).0;
      out_after = (named c.args.out.now c.args.text.now (decimal c.args.n) _ _ c.args.at _ _ c.put_text-next.ensures.value c.put_text-next.ensures.out_after
          c.put_number.ensures.value c.put_number.ensures.out_after).1;
    }
