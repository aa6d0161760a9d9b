-- `trace_rendering::put_request` meets its contract: case by case. Assumes nothing.
use mathlib.Core.Path.{ap}
use Rattle.trace_requests.specs.declared.TraceLine.TheVariants.{Ask}
use Rattle.trace_requests.specs.Lines.{spelling}
use Rattle.trace_rendering.proofs.RenderedLaws.{in_case}
use Rattle.trace_rendering.proofs.put_request.Goals as goal

pub returns-in-Steal : goal.returns-in-Steal
unfolding spelling
returns-in-Steal c = in_case (ap Ask c.in-Steal.is) c.put_line.ensures

pub returns-in-Return : goal.returns-in-Return
unfolding spelling
returns-in-Return c = in_case (ap Ask c.in-Return.is) c.put_line-in-Return.ensures

pub returns-in-Start : goal.returns-in-Start
unfolding spelling
returns-in-Start c = in_case (ap Ask c.in-Start.is) c.put_line-in-Start.ensures

pub returns-in-Suspend : goal.returns-in-Suspend
unfolding spelling
returns-in-Suspend c = in_case (ap Ask c.in-Suspend.is) c.put_line-in-Suspend.ensures

pub returns-in-Stop : goal.returns-in-Stop
unfolding spelling
returns-in-Stop c = in_case (ap Ask c.in-Stop.is) c.put_line-in-Stop.ensures

pub returns-in-Wake : goal.returns-in-Wake
unfolding spelling
returns-in-Wake c = in_case (ap Ask c.in-Wake.is) c.put_line-in-Wake.ensures

pub returns-in-Off : goal.returns-in-Off
unfolding spelling
returns-in-Off c = in_case (ap Ask c.in-Off.is) c.put_line-in-Off.ensures

pub returns-in-Await : goal.returns-in-Await
unfolding spelling
returns-in-Await c = in_case (ap Ask c.in-Await.is) c.put_line-in-Await.ensures

pub returns-in-Status : goal.returns-in-Status
unfolding spelling
returns-in-Status c = in_case (ap Ask c.in-Status.is) c.put_line-in-Status.ensures

pub returns-in-Home : goal.returns-in-Home
unfolding spelling
returns-in-Home c = in_case (ap Ask c.in-Home.is) c.put_line-in-Home.ensures

pub returns-in-Send : goal.returns-in-Send
unfolding spelling
returns-in-Send c = in_case (ap Ask c.in-Send.is) c.put_command.ensures

pub returns-in-Allow : goal.returns-in-Allow
unfolding spelling
returns-in-Allow c = in_case (ap Ask c.in-Allow.is) c.put_line-in-Allow.ensures

pub returns-in-Add : goal.returns-in-Add
unfolding spelling
returns-in-Add c = in_case (ap Ask c.in-Add.is) c.put_line-in-Add.ensures

pub returns-in-Remove : goal.returns-in-Remove
unfolding spelling
returns-in-Remove c = in_case (ap Ask c.in-Remove.is) c.put_line-in-Remove.ensures

pub returns-in-Defined : goal.returns-in-Defined
unfolding spelling
returns-in-Defined c = in_case (ap Ask c.in-Defined.is) c.put_line-in-Defined.ensures

pub returns-in-Broadcast : goal.returns-in-Broadcast
unfolding spelling
returns-in-Broadcast c = in_case (ap Ask c.in-Broadcast.is) c.put_command-in-Broadcast.ensures

pub returns-in-Process : goal.returns-in-Process
unfolding spelling
returns-in-Process c = in_case (ap Ask c.in-Process.is) c.put_line-in-Process.ensures

pub returns-in-Resume : goal.returns-in-Resume
unfolding spelling
returns-in-Resume c = in_case (ap Ask c.in-Resume.is) c.put_line-in-Resume.ensures
