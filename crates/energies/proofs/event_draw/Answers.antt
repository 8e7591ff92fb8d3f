-- `energies::event_draw` meets its contract: in each arm the draw is known by its variant, and a load's product is exact.
use Rattle.energies.proofs.Floats.{pulse-is, load_is}
use Rattle.energies.proofs.event_draw.Goals as goal

pub returns-in-Pulse : goal.returns-in-Pulse
returns-in-Pulse c = pulse-is c.in-Pulse.is

pub returns-in-Load : goal.returns-in-Load
returns-in-Load c = load_is c.in-Load.is
