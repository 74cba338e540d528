use Rattle.ak_journal.proofs.Parted.{words_go_on}
use Rattle.ak_journal.proofs.reading.words.parted.Goals as goal

pub loop-rest-preserved : goal.loop-rest-preserved
loop-rest-preserved c =
    words_go_on c.loop-rest.words.items c.push.new.self.items c.cut_at.result.0 c.in-Some.text.now _ _ c.in_ok-push.ensures.items c.cut_at.ensures.front c.cut_at.ensures.behind (rw c.in-Some.is at c.loop-rest.invariant)
