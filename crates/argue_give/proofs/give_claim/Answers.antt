-- A claim too many is counted alone; else its line and its steps are its text, and the list says what it says.
use mathlib.Core.Path.{refl}
use Rattle.argue_give.proofs.Giving.{gives_one}
use Rattle.argue_give.proofs.give_claim.Goals as goal

pub returns : goal.returns
returns c =
    let w = c.requires.give_room in
    let body = c.put_claim-body.ensures in
    let laps = c.laps-at.ensures in
    record {
      gives = gives_one w c.if-many-ge-CLAIMS.false c.requires.from_le_e.0 c.requires.from_le_e.1 body.added
          body.upper_bound laps.laps_say;
      need_unchanged = (laps.need_unchanged, refl);
    }
