-- Lines of which contracts see the same are the same.
use Rattle.std.proofs.Common.{◌≡◌, ◌≤◌, length, IsTrue, subst, ap₂}
use Rattle.std.proofs.Props.{props}
use Rattle.ak_flatten.specs.Limits.{flat_limit}
use Rattle.ak_flatten.specs.Spelling.{spelling}
use Rattle.ak_input.specs.Written.{is_looked_up}
use Rattle.ak_desk.specs.Plain.{is_plain_edit}
use Rattle.ak_script.specs.Statement.{HeyData, PostData, LockData}
use Rattle.ak_script.specs.StatementSeen.{hey_seen, post_seen, lock_seen}
use Rattle.ak_script.specs.declared.statement.Hey.{Hey}
use Rattle.ak_script.specs.declared.statement.Lock.{Lock}
use Rattle.ak_script.specs.declared.statement.Post.{Post}

-- what is made of the same, with two facts of it that have one proof each at most, is the same
module _ {D L : Type 0} (P Q : D → Type 0) (one_p : (d : D) → IsProp (P d)) (one_q : (d : D) → IsProp (Q d)) (make : (d : D) → P d → Q d → L) where
  made_same : (d e : D) (f : P d) (g : Q d) (f' : P e) (g' : Q e) → d ≡ e → make d f g ≡ make e f' g'
  made_same d e f g f' g' is =
      subst (λ (x : D). (a : P x) (b : Q x) → make d f g ≡ make x a b) is (λ a b. ap₂ (λ (x : P d) (y : Q d). make d x y) (one_p d f a) (one_q d g b)) f' g'

abbrev hey_with : (d : HeyData) → IsTrue (is_looked_up d.app) → length (spelling d.message) ≤ flat_limit → Hey
hey_with d form fits = record { app = d.app; message = d.message; form = form; fits = fits }

abbrev post_with : (d : PostData) → IsTrue (is_looked_up d.app) → length (spelling d.message) ≤ flat_limit → Post
post_with d form fits =
    record { app = d.app; looper = d.looper; target = d.target; dropped = d.dropped; waits = d.waits; message = d.message; form = form; fits = fits }

abbrev lock_with : (d : LockData) → IsTrue (is_looked_up d.app) → IsTrue (is_plain_edit d.edit) → Lock
lock_with d form edit_is = record { app = d.app; looper = d.looper; edit = d.edit; form = form; edit_is = edit_is }

pub hey_same : (x y : Hey) → hey_seen x ≡ hey_seen y → x ≡ y
hey_same x y e =
    made_same (λ (d : HeyData). IsTrue (is_looked_up d.app)) (λ (d : HeyData). length (spelling d.message) ≤ flat_limit) (λ d. hlevel props) (λ d. hlevel props) hey_with
    (hey_seen x) (hey_seen y) x.form x.fits y.form y.fits e

pub post_same : (x y : Post) → post_seen x ≡ post_seen y → x ≡ y
post_same x y e =
    made_same (λ (d : PostData). IsTrue (is_looked_up d.app)) (λ (d : PostData). length (spelling d.message) ≤ flat_limit) (λ d. hlevel props) (λ d. hlevel props) post_with
    (post_seen x) (post_seen y) x.form x.fits y.form y.fits e

pub lock_same : (x y : Lock) → lock_seen x ≡ lock_seen y → x ≡ y
lock_same x y e =
    made_same (λ (d : LockData). IsTrue (is_looked_up d.app)) (λ (d : LockData). IsTrue (is_plain_edit d.edit)) (λ d. hlevel props) (λ d. hlevel props) lock_with
    (lock_seen x) (lock_seen y) x.form x.edit_is y.form y.edit_is e
