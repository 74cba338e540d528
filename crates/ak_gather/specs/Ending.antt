-- What the histories of a run that ended tell of the loopers, and who made them.
use Rattle.std.specs.Prelude.{◌≡◌, ◌<◌, ℕ, List, length, All, AllPairs}
use Rattle.ak_roster.specs.declared.entry.RosterEntry.{RosterEntry}
use Rattle.ak_roster.specs.declared.head.AppHead.{AppHead}
use Rattle.ak_roster.specs.Machine.{state_of}
use Rattle.ak_port.specs.declared.port_entry.PortEntry.{PortEntry}
use Rattle.ak_port.specs.declared.reply_entry.ReplyEntry.{ReplyEntry}
use Rattle.ak_diary.specs.declared.histories.Histories.{Histories}
use Rattle.ak_diary.specs.Histories.{AreHistories}
use Rattle.ak_desk.specs.Entry.{EntryData}
use Rattle.ak_headline.specs.Run.{ActsIn, HasLooper, desk_list, desk_maker, port_list}

-- Each list is one that its object's machine allows; there are a port and a desk for each looper that was started, and no others. Each
-- looper has its diary, which has all that its thread did; those with these numbers, in order and each once, found no memory. No thread but main, so many sessions and the loopers'
-- made an entry at the roster, at the reply book, at a port or at a desk
pub record IsRunOfLoopers (heads : List AppHead) (short : List ℕ) (sessions : ℕ) (h : Histories) : Type 0 where
  pub histories : AreHistories heads h
  pub all : length h.ports.items ≡ length (state_of heads h.roster.items).loopers
  pub loopers : (looper : ℕ) → looper < length h.ports.items → HasLooper heads short h looper
  pub short_are : All (λ (number : ℕ). number < length h.ports.items) short
  pub short_once : AllPairs (λ (a b : ℕ). a < b) short
  pub roster_makers : All (λ (entry : RosterEntry). ActsIn h sessions entry.by.0) h.roster.items
  pub book_makers : All (λ (entry : ReplyEntry). ActsIn h sessions entry.by.0) h.book
  pub port_makers : (looper : ℕ) → All (λ (entry : PortEntry). ActsIn h sessions entry.by.0) (port_list h looper)
  pub desk_makers : (looper : ℕ) → All (λ (entry : EntryData). ActsIn h sessions (desk_maker entry)) (desk_list h looper)
