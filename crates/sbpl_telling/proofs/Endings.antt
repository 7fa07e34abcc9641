-- How a run ended, by how the writing of its last line ended.
use Rattle.std.proofs.Common.{◌≡◌, ◌==◌, if◌then◌else◌, ℕ, List, [], Err, refl, inl, inr}
use Rattle.sbpl_promises.specs.sbpl_desk.declared.desk.WriteStop.{WriteStop}
use Rattle.sbpl_promises.specs.sbpl_desk.declared.desk.WriteStop.TheVariants.{Failed, NoMemory}
use Rattle.sbpl_promises.specs.Writing.{DeskState, EndsAs, EndsIn, Write, status_after}
use Rattle.sbpl_promises.specs.sbpl_report.Statuses.{number_of}
use Rattle.sbpl_telling.specs.Endings.{EndsTelling, as_wanted, cut, ran_out}
use Rattle.sbpl_telling.specs.declared.ending.Ending.{Ending}
use Rattle.sbpl_telling.proofs.Writings.{none_made}

-- a run that ends so ends with its status
pub ends_as : {a b : DeskState} {writes : List Write} {wanted : ℕ} {why : List ℕ} {e : Ending}
    → EndsTelling a b writes wanted why e → EndsAs a b writes wanted (number_of e.status)
ends_as (as_wanted is made told) = inl (is, made)
ends_as (cut is at untold) = inr (inl (is, at))
ends_as (ran_out is at untold) = inr (inr (is, at))

-- where it is to answer status 0, it tells what it is to tell with that status alone
pub tells_if_done : {a b : DeskState} {writes : List Write} {why : List ℕ} {e : Ending} → EndsTelling a b writes 0 why e
    → e.why ≡ (if number_of e.status == 0 then why else [])
tells_if_done (as_wanted is made told) = rw is told
tells_if_done (cut is at untold) = rw is untold
tells_if_done (ran_out is at untold) = rw is untold

-- the writes were not made
pub ends_badly : {a b : DeskState} {writes : List Write} {wanted : ℕ} {why : List ℕ} {e : Ending} (stop : WriteStop)
    → EndsIn {T = Unit {0}} a b writes (Err stop) → number_of e.status ≡ status_after {T = Unit {0}} wanted (Err stop)
    → e.why ≡ [] → EndsTelling a b writes wanted why e
ends_badly Failed at is untold = cut is at untold
ends_badly NoMemory at is untold = ran_out is at untold

-- memory ran out before
pub ends_at_once : {a : DeskState} {writes : List Write} {wanted : ℕ} {why : List ℕ} {e : Ending}
    → number_of e.status ≡ 9 → e.why ≡ [] → EndsTelling a a writes wanted why e
ends_at_once {a} {writes} is untold =
    ran_out is (record { first = []; rest = writes; whole = refl; made = none_made a a (λ name. refl) }) untold
